use Rattle.star_group.proofs.{Common.{◌≡◌, ◌++◌, ◌∷◌, [], rules, set, subst, sym, take, IsTrie, keys_in, listed_keys}, Tries.is_trie_after}
use Rattle.star_group.proofs.keyed.KeyedRows.push.Goals as goal

pub invariant_of-self-2-clause-trie : goal.invariant_of-self-2-clause-trie
invariant_of-self-2-clause-trie c =
    let s = c.args.self.now in
    let key = take s.listed.width c.args.key.now in
    let keys : listed_keys c.push-2.new.self ≡ keys_in s ++ key ∷ [] = search rules in
    let trie : IsTrie s.listed.width (listed_keys c.push-2.new.self)
    (set c.push.new.self.items c.args.node
    (set c.index_mut.result.now c.args.digit c.in_ok-number.number)) =
    is_trie_after s.listed.width (keys_in s) s.links.items key c.args.node c.args.digit s.trie
    c.requires.missing _ _ _ _ _ keys (search rules) c.index_mut.ensures.value (search rules) in
    subst (λ w. IsTrie w (listed_keys c.push-2.new.self)
    (set c.push.new.self.items c.args.node
    (set c.index_mut.result.now c.args.digit c.in_ok-number.number))) (sym c.push-2.ensures.width)
    trie
