use Rattle.star_group.proofs.Common.{◌≡◌, ◌++◌, take, map, set, filter, key_view, is_row_key, All}
use Rattle.star_group.proofs.eager.row_keys.double.Given as goal

abbrev pub invariant-loop-number : goal.invariant-loop-number
invariant-loop-number l = l.row_keys.items ≡ l.fn.row_keys.items
    ++ filter (λ key. is_row_key l.shape l.key_count (key_view key))
    (map (λ key. set key l.index All) (take l.number l.fn.row_keys.items))
