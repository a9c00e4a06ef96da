use Rattle.star_group.proofs.{Common.◌≡◌, Common.MatchBool, Common.subst, Tries.keys_told}
use Rattle.star_group.proofs.keyed.trie.has_key.Goals as goal

pub returns : goal.returns
returns c = subst (λ ps. MatchBool c.eq.result (ps ≡ c.args.key.now) (ps ≡ c.args.key.now → ⊥))
    (c.row_of.ensures) (keys_told c.eq.result c.row_of.result.now c.args.key.now c.eq.ensures)
