use Rattle.std.proofs.Common.{◌≡◌, ◌++◌, map, take}
use Rattle.star_merge.specs.Cells.{group_of}
use Rattle.star_merge_laws.specs.Regrouping.{all_added}
use Rattle.star_merge.proofs.merging.push_rows.Given as goal

abbrev pub invariant-loop-number : goal.invariant-loop-number
invariant-loop-number l = l.groups.items
    ≡ l.fn.groups.items ++ all_added l.shape (map (group_of l.count) (take l.number l.rows))
