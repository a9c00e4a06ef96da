use Rattle.star_group.proofs.Common.{◌≡◌, ◌∙◌, ◌∷◌, [], ap, map, refl, rules, key_view}
use Rattle.star_group.proofs.eager.row_keys.fill_row_keys.Goals as goal

pub returns : goal.returns
returns c =
    let one : c.push.new.self.items ≡ c.base_key.result ∷ [] = search rules in
    c.vary.ensures c.args.keys.now refl
    (ap (map key_view) one ∙ ap (λ k. k ∷ []) c.base_key.ensures)
