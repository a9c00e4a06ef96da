use Rattle.std.proofs.Common.{◌≡◌, ◌<◌, ℕ, get_or, length}
use Rattle.star_interval.specs.{Interval.range_of, declared.Interval.Interval}
use Rattle.star_merge_laws.specs.Facts.{hull_of_rows}
use Rattle.star_merge.proofs.bounds.join_bounds.Given as goal

abbrev pub invariant-loop-index : goal.invariant-loop-index
invariant-loop-index l = (length l.joined ≡ 58) × ((k : ℕ) (any : Interval) → k < l.index
    → range_of (get_or l.joined k any)
    ≡ hull_of_rows l.rows l.more_rows (range_of (get_or l.bounds k any))
    (range_of (get_or l.more k any)))
