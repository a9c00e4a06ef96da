-- The plain programs of queries: they are accepted if their queries fit, and count as these do.
use Rattle.std.{proofs.Common.{◌≡◌, ◌↔◌, ◌∙◌, ℕ, List, Option, Some, None, MatchOption, refl, subst, sym, true}, proofs.lemmas.List.Sorted.length_permutation, specs.Prelude.All}
use Rattle.star_schema.specs.{declared.table.TableId.TableId, Database.Database, Database.rows_in, Tables.IsRowOf}
use Rattle.star_plan.specs.{Meaning.Plan, Meaning.plan_rows, Sound.IsSoundPlan, Spelled.IsSpelledPlan}
use Rattle.star_program.specs.{declared.outcome.Outcome.Outcome, declared.program.Parts.Parts, Run.run_of}
use Rattle.star_outcome.specs.Yields.{Yields}
use Rattle.star_world.specs.{RowsSeen.IsWorldOf, WorldOf.world_of}
use Rattle.star_query_meaning.{specs.Fitting.PlanFitsTables, specs.Rows.selected, proofs.OwnWords.selected_reordered}
use Rattle.star_compile_laws.{specs.Compiled.compiled, proofs.Answered.answers_the_plan, proofs.Rows.counts_the_rows, proofs.SeenRows.sees}
use Rattle.star_merge_laws.{specs.Plain.plain_plan, proofs.PartialFacts.plain_sound}
use Rattle.star_engine.{specs.Executions.IsAcceptedWithin, specs.Partials.IsPlainOutcome, specs.Private.PartialSteps.{HasPlainProgramLaws, IsPlainProgram, IsRunIfAccepted}, specs.Queries.{FitsRows, IsPlanOf}, proofs.PlansOfQueries.{plan_sound, plan_spelled}}

pub sound_plain : (query : List ℕ) (p : Plan) → IsPlanOf query p → IsSoundPlan (plain_plan p)
sound_plain query p meant = plain_sound p (plan_sound query p meant)

pub spelled_plain : (query : List ℕ) (p : Plan) → IsPlanOf query p → IsSpelledPlan (plain_plan p)
spelled_plain query p meant = let s = plan_spelled query p meant in
    record { names = s.names; conjuncts = s.conjuncts; measures = s.measures }

-- what a plan aggregates decides whether it fits
pub fits_plain : (most : ℕ) (database : Database) (p : Plan)
    → PlanFitsTables most (rows_in database) p
    ↔ PlanFitsTables most (rows_in database) (plain_plan p)
fits_plain most database p = (
  λ fits. record { visits = fits.visits; nodes = fits.nodes },
  λ fits. record { visits = fits.visits; nodes = fits.nodes },
)

pub ran_plain : (database : Database) (query : List ℕ) (p : Plan) (meant : IsPlanOf query p)
    → ((t : TableId) → All (IsRowOf t) (rows_in database t))
    → IsWorldOf database (world_of database) → (outcome : Outcome)
    → Yields (world_of database) (compiled (plain_plan p))
    (run_of (world_of database) (compiled (plain_plan p))) outcome
    → IsPlainOutcome database query p meant outcome
ran_plain database query p meant rows world outcome yields =
    let ts = rows_in database in
    let w = world_of database in
    let seen = sees database w rows world in
    let sound = sound_plain query p meant in
    let told = yields.told in
    let counted = counts_the_rows ts w seen (plain_plan p) sound
    (λ v. true) yields.s yields.ended in
    record {
      answer =
          answers_the_plan ts w seen (plain_plan p) sound (λ v. true) yields.s outcome yields.ended
          told;
      visits = told.visits ∙ counted.0;
      lookups = told.lookups ∙ counted.1;
      updates =
          told.updates ∙ counted.2
          ∙ length_permutation (selected ts meant.tree) (plan_rows ts p)
          (selected_reordered ts meant.tree p meant.named meant.resolved);
    }

-- ---- the run of a partial

pub run_plain : (most : ℕ) (database : Database) (query : List ℕ) (program : Parts)
    (is : IsPlainProgram query program) → HasPlainProgramLaws most database query is.p is.meant
    → (run : Option Outcome) → IsRunIfAccepted most database program run
    → MatchOption run (¬ FitsRows most database query) (λ outcome.
    FitsRows most database query × IsPlainOutcome database query is.p is.meant outcome)
run_plain most database query program is judged None refused = λ fits.
    refused (subst (IsAcceptedWithin database most) (sym is.made) (judged.accepted.0 fits))
run_plain most database query program is judged (Some outcome) ran =
    let w = world_of database in
    let Ran : Parts → Type 0 = λ parts. Yields w parts (run_of w parts) outcome in (
      judged.accepted.1 (subst (IsAcceptedWithin database most) is.made ran.0),
      judged.ran outcome (subst Ran is.made ran.1),
    )
