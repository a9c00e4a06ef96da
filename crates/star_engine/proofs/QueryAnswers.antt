-- What is printed of the program of a query is what is printed of the query.
use Rattle.std.proofs.Common.{◌∙◌, ℕ, List, ap, subst, sym}
use Rattle.star_schema.specs.Database.{Database}
use Rattle.star_plan.specs.Meaning.{Plan}
use Rattle.star_verify.specs.declared.refusal.Refusal.{Refusal}
use Rattle.star_compile_laws.specs.{Compiled.compiled, Judged.IsOverflow}
use Rattle.star_engine.specs.{Queries.{FitsRows, IsPlanOf, IsQueryRefusal, IsQueryRunErrorOver, IsQueryRunOver}, declared.fault.EngineFault.EngineFault, Executions.{IsRefusal, IsProgramRun}, WithNotes.RunText, Notes.{counts_line, quote_line}, Private.QuerySteps.HasProgramLaws, Private.Steps.IsNotVerified}
use Rattle.star_engine.specs.declared.fault.EngineFault.TheVariants as engine

module _ (most : ℕ) (database : Database) (query : List ℕ) (p : Plan)
    (meant : IsPlanOf query p) (judged : HasProgramLaws most database query p) where
  pub report_written : (run : RunText) → IsProgramRun database most (compiled p) run
      → IsQueryRunOver most database query run
  report_written run told =
      let s = told.yields.s in
      let outcome = told.yields.told in
      let counted = judged.counted s told.yields.ended meant in
      record {
        fitting = judged.accepted.1 told.accepted;
        quoted = told.quoted ∙ ap quote_line judged.quoted;
        reported =
            rw told.reported (judged.printed s told.yields.ended told.outcome told.yields.told);
        p = p;
        meant = meant;
        done =
            told.done
            ∙ (λ i. counts_line ((outcome.visits ∙ counted.visits) i)
            ((outcome.lookups ∙ counted.lookups) i) ((outcome.updates ∙ counted.updates) i));
      }

  pub refusal_shown : (refusal : Refusal) → IsRefusal database most (compiled p) refusal
      → IsQueryRefusal most database query refusal
  refusal_shown refusal is =
      let unfit : ¬ FitsRows most database query =
      λ fits. is.not_accepted (judged.accepted.0 fits) in
      let first = is.told ∙ sym is.first in
      record {
        p = p;
        meant = meant;
        unfit = unfit;
        costly = λ over. first ∙ judged.costly over;
        wide = λ within. subst IsOverflow (sym first) (judged.wide within unfit);
        first = λ within. first ∙ judged.first within;
      }

  pub fault_told : (fault : EngineFault) → IsNotVerified database most (compiled p) fault
      → IsQueryRunErrorOver most database query fault
  fault_told (engine.Refused refusal) is = refusal_shown refusal is
  fault_told _ is = absurd is
