use Rattle.star_group.proofs.Common.{◌≡◌, ℕ, ◌<◌, [], false, slice_index_or, option_copied, unwrap_or, Count, leaves, merged_at}
use Rattle.star_group.proofs.keyed.merge.row_stays.Given as goal

abbrev pub invariant-loop-index : goal.invariant-loop-index
invariant-loop-index l = (index : ℕ) → index < l.index
    → leaves (slice_index_or l.aggregates index Count)
    (merged_at l.aggregates (unwrap_or (option_copied l.held) []) l.more index) ≡ false
