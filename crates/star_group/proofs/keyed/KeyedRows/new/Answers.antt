use Rattle.star_group.proofs.{Common.{◌≡◌, ◌∷◌, [], refl, rules}, ListedRows.no_entries, Tries.none_cut}
use Rattle.star_group.proofs.keyed.KeyedRows.new.Goals as goal

pub invariant_of-result-clause-trie : goal.invariant_of-result-clause-trie
invariant_of-result-clause-trie c =
    let links : c.push.new.self.items ≡ (0 ∷ 0 ∷ 0 ∷ 0 ∷ []) ∷ [] = search rules in
    none_cut _ _ c.push.new.self.items links

pub returns-clause-empty : goal.returns-clause-empty
returns-clause-empty c = no_entries _ _ _ _ _ refl
