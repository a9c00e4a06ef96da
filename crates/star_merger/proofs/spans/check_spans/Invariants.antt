use Rattle.std.proofs.Common.{◌≡◌, ◌<◌, ℕ, None, map, slice_index_or, true}
use Rattle.star_merger.specs.{Partials.contents_of, Merged.spans_of}
use Rattle.star_merge_laws.specs.Parts.{are_disjoint}
use Rattle.star_merger.proofs.spans.check_spans.Given as goal

abbrev pub invariant-loop-index : goal.invariant-loop-index
invariant-loop-index l =
    (index other : ℕ) → other < index → index < l.index
    → are_disjoint (slice_index_or (spans_of (map contents_of l.partials)) other None)
    (slice_index_or (spans_of (map contents_of l.partials)) index None) ≡ true
