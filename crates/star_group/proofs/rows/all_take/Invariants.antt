use Rattle.star_group.proofs.{Common.{map, take, key_view, row_found, entries_of, AllStay}, MergedRows.among}
use Rattle.star_group.proofs.rows.all_take.Given as goal

abbrev pub invariant-loop-index : goal.invariant-loop-index
invariant-loop-index l =
    AllStay (row_found (entries_of l.rows)) (among (take l.index (map key_view l.row_keys)))
    l.aggregates l.more
