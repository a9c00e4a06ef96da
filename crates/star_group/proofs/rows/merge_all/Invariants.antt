use Rattle.star_group.proofs.{Common.{◌-◌, length, map, take, key_view, row_found, entries_of, AreAsWide, HasSpace, MergesAll}, MergedRows.among}
use Rattle.star_group.proofs.rows.merge_all.Given as goal

abbrev pub invariant-loop-index : goal.invariant-loop-index
invariant-loop-index l = record {
  merges : MergesAll (among (take l.index (map key_view l.row_keys))) l.aggregates l.more
      (row_found (entries_of l.fn.rows)) (row_found (entries_of l.rows));
  space : HasSpace l.rows (length l.row_keys - l.index);
  widths : AreAsWide l.fn.rows l.rows;
}
