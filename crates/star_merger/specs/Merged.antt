-- The result of a merge.
use Rattle.std.specs.Prelude.{◌≡◌, ◌<◌, ℕ, Bool, false, List, None, Option, Some, Result, Ok, Err, map, slice_index_or}
use Rattle.star_partial.specs.Contents.{Contents}
use Rattle.star_merge_laws.specs.Parts.{Span, are_disjoint}
use Rattle.star_engine.specs.{declared.fault.EngineFault.EngineFault, declared.fault.EngineFault.TheVariants.Write, Answered.Change, Answered.IsUntouched, WithNotes.IsAnsweredWithNotes, WithNotes.RunText, Partials.span_view}
use Rattle.star_merger.specs.declared.fault.{PartialFault.TheVariants.Overlap, PartialsFault.PartialsFault, PartialsFault.TheVariants.Engine, PartialsFault.TheVariants.Partial}

-- the spans of partials
abbrev pub spans_of : List Contents → List (Option Span)
spans_of all = map (λ contents. span_view contents.span) all

-- the span at a position overlaps that at an earlier one
pub record DoOverlap (spans : List (Option Span)) (index other : ℕ) : Type 0 where
  pub before : other < index
  pub overlap : are_disjoint (slice_index_or spans other None) (slice_index_or spans index None)
      ≡ false

-- the faults of partials that were made of parts with the same dimensions: the spans of two overlap
abbrev pub IsOverlap : (is_distinct : Bool) → List (Option Span) → PartialsFault → Type 0
IsOverlap is_distinct spans (Partial index (Overlap line) (Some other)) =
    (is_distinct ≡ false) × DoOverlap spans index other
IsOverlap is_distinct spans _ = ⊥

-- what a query's call writes and returns over all parts; or a fault of the partials, with both
-- sinks unchanged
abbrev pub IsMerged : {S N : Type 0} → Change S → Change N → (IsQuote : List ℕ → Type 0)
    → (IsTold : RunText → Type 0) → (IsDue : EngineFault → Type 0)
    → (IsBad : PartialsFault → Type 0) → Result (Unit {0}) PartialsFault → Type 0
IsMerged out notes IsQuote IsTold IsDue IsBad (Ok answer) =
    IsAnsweredWithNotes out notes IsQuote IsTold IsDue (Ok answer)
IsMerged out notes IsQuote IsTold IsDue IsBad (Err (Engine fault)) =
    IsAnsweredWithNotes out notes IsQuote IsTold IsDue (Err fault)
IsMerged out notes IsQuote IsTold IsDue IsBad (Err fault) =
    IsBad fault × IsUntouched out × IsUntouched notes

-- after any error but a failed write the report's sink is unchanged
abbrev pub IsUnprinted : {S : Type 0} → Change S → PartialsFault → Type 0
IsUnprinted out (Engine (Write sent)) = Unit {0}
IsUnprinted out fault = IsUntouched out
