use Rattle.std.{proofs.Common.{map, take}, specs.List.flat_map}
use Rattle.star_merge.specs.{Cells.group_of, Private.Adding.HasMerged}
use Rattle.star_merge.proofs.merging.merge_rows.Given as goal

abbrev pub invariant-loop-rows : goal.invariant-loop-rows
invariant-loop-rows l = HasMerged l.fn.shape l.fn.count l.fn.aggregates.items
    (flat_map (λ rows. map (group_of l.fn.count) rows.now) (take l.rows-index l.reports)) l.merging
