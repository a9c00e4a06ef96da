use Rattle.std.proofs.Common.{◌≡◌, ◌<◌, ℕ, None, map, slice_index_or, true}
use Rattle.star_merger.specs.{Partials.contents_of, Merged.spans_of}
use Rattle.star_merge_laws.specs.Parts.{are_disjoint}
use Rattle.star_merger.proofs.spans.overlapped.Given as goal

abbrev pub invariant-loop-other : goal.invariant-loop-other
invariant-loop-other l =
    (k : ℕ) → k < l.other
    → are_disjoint (slice_index_or (spans_of (map contents_of l.partials)) k None)
    (slice_index_or (spans_of (map contents_of l.partials)) l.index None) ≡ true
