-- What a merge returns is what a query's call returns over all parts.
use Rattle.std.{proofs.Common.{◌≡◌, ◌∙◌, ◌↔◌, ◌<◌, ◌≤◌, ℕ, Bool, List, None, Option, Some, ap, inl, inr, refl, subst, sym}, specs.List.All, specs.Option.option_map, specs.Prelude.{Err, IfErr, Ok, Result}}
use Rattle.star_common.specs.Memory.{UnlessMemory}
use Rattle.star_schema.{specs.declared.table.TableId.TheVariants.Lineorder, specs.Columns.bounds_in, specs.Database.{Database, TableTexts, rows_in}, specs.Loadable.{IsLoadable, database_of}, proofs.Typed.rows_typed}
use Rattle.star_catalogue.{specs.declared.fault.LoadFault.LoadFault, specs.declared.fault.LoadFault.TheVariants.TooManyRows, proofs.SmallNumbers.bounds_small}
use Rattle.star_plan.specs.Meaning.{Plan}
use Rattle.star_safety.specs.Admissible.{IsAdmissible, first_refusal}
use Rattle.star_verify.specs.{declared.refusal.Refusal.Refusal, Views.refusal_view}
use Rattle.star_world.specs.WorldOf.{world_of}
use Rattle.star_partial.specs.Contents.{Contents}
use Rattle.star_compile_laws.specs.{Compiled.compiled, Judged.IsOverflow, Wide.turn_wide}
use Rattle.star_merge_laws.specs.Parts.{Span}
use Rattle.star_engine.{specs.declared.fault.EngineFault.EngineFault, specs.Answered.{Change, IsUntouched}, specs.Executions.{IsAcceptedWithin, quote_over}, specs.Faults.fault_of_refusal, specs.Loads.AreLoadedRows, specs.WithNotes.{IsAnsweredWithNotes, HasGainedQuote, RunText}, specs.Queries.{FitsRows, IsPlanOf, IsQueryRefusal, fact_rows}, proofs.NotedAs.noted_as, proofs.Noting.note_broken}
use Rattle.star_merger.specs.{declared.fault.PartialFault.PartialFault, declared.fault.PartialsFault.PartialsFault, Merged.{IsMerged, IsOverlap, IsUnprinted}, Private.Checked.IsUnchecked, Private.Outcomes.{HasRoom, IsUnmerged}, Private.Shown.IsUsable, Private.Written.{IsRefusedAfter, as_merge}}
use Rattle.star_safety.specs.Admissible as admissible
use Rattle.star_engine.specs.declared.fault.EngineFault.TheVariants as engine
use Rattle.star_verify.specs.declared.refusal.Refusal.TheVariants as why
use Rattle.star_merger.specs.declared.fault.PartialFault.TheVariants as fault
use Rattle.star_merger.specs.declared.fault.PartialsFault.TheVariants as merging

-- the rows of five texts that can be loaded
pub loaded_rows : (most : ℕ) (texts : TableTexts) → IsLoadable most texts
    → AreLoadedRows (database_of texts)
loaded_rows most texts loadable = record {
  sound = loadable.sound;
  rows = rows_typed most texts loadable.tables;
  bounds = bounds_small most texts loadable.tables;
}

module _ {S N : Type 0} (out : Change S) (notes : Change N) where
  -- what the engine's call returns
  pub as_noted : (IsQuote : List ℕ → Type 0) (IsTold : RunText → Type 0)
      (IsDue : EngineFault → Type 0) (IsBad : PartialsFault → Type 0)
      (result : Result (Unit {0}) EngineFault)
      → IsAnsweredWithNotes out notes IsQuote IsTold IsDue result
      → IsMerged out notes IsQuote IsTold IsDue IsBad (as_merge result)
  as_noted IsQuote IsTold IsDue IsBad (Ok answer) noted = noted
  as_noted IsQuote IsTold IsDue IsBad (Err fault) noted = noted

  -- what was checked before anything is written
  pub not_checked : (IsQuote : List ℕ → Type 0) (IsTold : RunText → Type 0)
      (IsDue : EngineFault → Type 0) (most : ℕ) (whole : Database) (is_distinct : Bool)
      (spans : List (Option Span)) (fault : PartialsFault)
      → ((fault : LoadFault) → fault ≡ TooManyRows Lineorder → most < fact_rows whole
      → IsDue (engine.Load fault))
      → IsUntouched out → IsUntouched notes → IsUnchecked most whole is_distinct spans fault
      → IsMerged out notes IsQuote IsTold IsDue (IsOverlap is_distinct spans) (Err fault)
  not_checked IsQuote IsTold IsDue most whole is_distinct spans (merging.Engine (engine.Load fault))
      due same still is = (due fault is.0 is.1, same, still)
  not_checked IsQuote IsTold IsDue most whole is_distinct spans
      (merging.Engine _) due same still is =
      absurd is
  not_checked IsQuote IsTold IsDue most whole is_distinct spans (merging.Partial index fault other)
      due same still is = (is, same, still)

  -- no outcome
  pub not_merged : (IsQuote : List ℕ → Type 0) (IsTold : RunText → Type 0)
      (IsDue : EngineFault → Type 0) (p : Plan) (all : List Contents) (fault : PartialsFault)
      → IsUntouched out → IsUntouched notes → IsUnmerged p all fault
      → IsMerged out notes IsQuote IsTold IsDue (IsUnmerged p all) (Err fault)
  not_merged IsQuote IsTold IsDue p all (merging.Engine engine.OutOfMemory) same still is =
      (same, inl still)
  not_merged IsQuote IsTold IsDue p all (merging.Engine _) same still is = absurd is
  not_merged IsQuote IsTold IsDue p all (merging.Partial index fault other) same still is =
      (is, same, still)

  pub merged_as : (Quote OtherQuote : List ℕ → Type 0) (Told OtherRun : RunText → Type 0)
      (Due OtherDue : EngineFault → Type 0) (Bad OtherBad : PartialsFault → Type 0)
      (result : Result (Unit {0}) PartialsFault) → ((note : List ℕ) → Quote note → OtherQuote note)
      → ((run : RunText) → Told run → OtherRun run)
      → ((fault : EngineFault) → Due fault → OtherDue fault)
      → ((index : ℕ) (fault : PartialFault) (other : Option ℕ)
      → Bad (merging.Partial index fault other) → OtherBad (merging.Partial index fault other))
      → IsMerged out notes Quote Told Due Bad result
      → IsMerged out notes OtherQuote OtherRun OtherDue OtherBad result
  merged_as Quote OtherQuote Told OtherRun Due OtherDue Bad OtherBad (Ok answer) quote tell due bad
      is = noted_as out notes Quote OtherQuote Told OtherRun Due OtherDue
      (Ok answer) quote tell due is
  merged_as Quote OtherQuote Told OtherRun Due OtherDue Bad OtherBad (Err (merging.Engine fault))
      quote tell due bad is =
      noted_as out notes Quote OtherQuote Told OtherRun Due OtherDue (Err fault) quote tell due is
  merged_as Quote OtherQuote Told OtherRun Due OtherDue Bad OtherBad
      (Err (merging.Partial index fault other)) quote tell due bad is =
      (bad index fault other is.0, is.1, is.2)

  -- a refusal, after the note of the quote
  refused : (IsQuote : List ℕ → Type 0) (IsTold : RunText → Type 0) (IsDue : EngineFault → Type 0)
      (refusal : Refusal) (P : Type 0) → UnlessMemory why.OutOfMemory refusal P
      → (P → (refusal ≡ why.OutOfMemory → ⊥) → IsDue (engine.Refused refusal)) → IsUntouched out
      → HasGainedQuote notes IsQuote
      → IsAnsweredWithNotes out notes IsQuote IsTold IsDue (Err (fault_of_refusal refusal))
  refused IsQuote IsTold IsDue why.OutOfMemory P is due same noted = (same, inr noted)
  refused IsQuote IsTold IsDue (why.TooCostly visits) P is due same noted =
      (elim is [ inl e ↦ absurd (cc e) | inr p ↦ due p (λ e. cc) ], same, noted)
  refused IsQuote IsTold IsDue (why.Refused at reason) P is due same noted =
      (elim is [ inl e ↦ absurd (cc e) | inr p ↦ due p (λ e. cc) ], same, noted)
  refused IsQuote IsTold IsDue (why.BadShow index) P is due same noted =
      (elim is [ inl e ↦ absurd (cc e) | inr p ↦ due p (λ e. cc) ], same, noted)

  -- the same, if the note was written
  pub refused_after : (IsQuote : List ℕ → Type 0) (IsTold : RunText → Type 0)
      (IsDue : EngineFault → Type 0) (note : List ℕ) (refusal : Refusal) (P : Type 0)
      (result : Result (Unit {0}) EngineFault) → UnlessMemory why.OutOfMemory refusal P
      → (P → (refusal ≡ why.OutOfMemory → ⊥) → IsDue (engine.Refused refusal)) → IsUntouched out
      → IsQuote note → IsRefusedAfter notes note refusal result
      → IsAnsweredWithNotes out notes IsQuote IsTold IsDue result
  refused_after IsQuote IsTold IsDue note refusal P (Ok answer) is due same quote after =
      absurd after
  refused_after IsQuote IsTold IsDue note refusal P (Err fault) is due same quote after =
      elim after [
        | inl noted ↦ rw noted.0
            (refused IsQuote IsTold IsDue refusal P is due same (note, quote, noted.1))
        | inr part ↦ note_broken out notes IsQuote IsTold IsDue note (Err fault)
            (ap Err part.0) quote
            part.1 same
      ]

module _ {S : Type 0} (out : Change S) where
  pub unprinted_same : (fault : PartialsFault) → IsUntouched out → IsUnprinted out fault
  unprinted_same (merging.Engine (engine.Write sent)) same = tt
  unprinted_same (merging.Engine _) same = same
  unprinted_same (merging.Partial index fault other) same = same

  pub unprinted : {A : Type 0} (result : Result A PartialsFault) → IsUntouched out
      → IfErr result (IsUnprinted out)
  unprinted (Ok value) same = tt
  unprinted (Err fault) same = unprinted_same fault same

pub noted_unprinted : {S N : Type 0} (out : Change S) (notes : Change N)
    (IsQuote : List ℕ → Type 0) (IsTold : RunText → Type 0) (result : Result (Unit {0}) EngineFault)
    → IsAnsweredWithNotes out notes IsQuote IsTold (λ fault. ⊥) result
    → IfErr (as_merge result) (IsUnprinted out)
noted_unprinted out notes IsQuote IsTold (Ok answer) noted = tt
noted_unprinted out notes IsQuote IsTold (Err engine.OutOfMemory) noted = noted.0
noted_unprinted out notes IsQuote IsTold (Err (engine.Write sent)) noted = tt
noted_unprinted out notes IsQuote IsTold (Err (engine.Refused refusal)) noted = noted.1
noted_unprinted out notes IsQuote IsTold (Err _) noted = noted.1

-- usable parts with room have an outcome
pub none_unmerged : (p : Plan) (all : List Contents) → All IsUsable all → HasRoom p all
    → (index : ℕ) (fault : PartialFault) (other : Option ℕ)
    → ¬ IsUnmerged p all (merging.Partial index fault other)
none_unmerged p all usable room index (fault.Refused line) other is = is usable
none_unmerged p all usable room index (fault.Overflow line) other is = is room
none_unmerged p all usable room index _ other is = is

module _ (most : ℕ) (whole : Database) (query : List ℕ) (p : Plan) (meant : IsPlanOf query p)
    (accepted : FitsRows most whole query ↔ IsAcceptedWithin whole most (compiled p))
    (admitted : (first_refusal (world_of whole) most (compiled p) ≡ None)
    ↔ (IsAdmissible (world_of whole) (compiled p) × (quote_over whole (compiled p) ≤ most))) where
  pub none_fits : first_refusal (world_of whole) most (compiled p) ≡ None
      → FitsRows most whole query
  none_fits none =
      let both = admitted.0 none in
      accepted.1 (record { admissible = both.0; cheap = both.1 })

  fits_none : FitsRows most whole query → first_refusal (world_of whole) most (compiled p) ≡ None
  fits_none fits =
      let is = accepted.0 fits in
      admitted.1 (is.admissible, is.cheap)

  none_viewed : (refusal : Refusal) → refusal_view refusal ≡ None → refusal ≡ why.OutOfMemory
  none_viewed why.OutOfMemory e = refl
  none_viewed (why.TooCostly visits) e = absurd (cc e)
  none_viewed (why.Refused at reason) e = absurd (cc e)
  none_viewed (why.BadShow index) e = absurd (cc e)

  pub unfit : (refusal : Refusal)
      → (most < fact_rows whole → first_refusal (world_of whole) most (compiled p)
      ≡ Some (admissible.TooCostly (fact_rows whole)))
      → (fact_rows whole ≤ most → ¬ FitsRows most whole query
      → IsOverflow (first_refusal (world_of whole) most (compiled p)))
      → (fact_rows whole ≤ most → first_refusal (world_of whole) most (compiled p)
      ≡ option_map admissible.Refused (turn_wide (bounds_in (rows_in whole)) p))
      → first_refusal (world_of whole) most (compiled p) ≡ refusal_view refusal
      → (refusal ≡ why.OutOfMemory → ⊥) → IsQueryRefusal most whole query refusal
  unfit refusal costly wide first is not_memory =
      let not_fit : ¬ FitsRows most whole query =
      λ fits. not_memory (none_viewed refusal (sym is ∙ fits_none fits)) in
      record {
        p = p;
        meant = meant;
        unfit = not_fit;
        costly = λ over. sym is ∙ costly over;
        wide = λ within. subst IsOverflow is (wide within not_fit);
        first = λ within. sym is ∙ first within;
      }
