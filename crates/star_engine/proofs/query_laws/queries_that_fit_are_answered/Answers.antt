-- From the laws of compiled programs and of admission, for the plans of texts.
use Rattle.std.proofs.Common.{◌≡◌, ◌≤◌, ℕ, List, true, arith, subst}
use Rattle.star_schema.specs.Database.{Database, rows_in}
use Rattle.star_plan.specs.Meaning.{Plan}
use Rattle.star_program.specs.{Run.{End, Ended, Trapped, Limited, EndsWith}, Effects.State}
use Rattle.star_safety.specs.{Laws.EndsWithin, Laws.IsAccepted, Quote.quote}
use Rattle.star_world.specs.WorldOf.{world_of}
use Rattle.star_compile_laws.specs.Compiled.{compiled}
use Rattle.star_engine.{specs.Queries.fact_rows, specs.QueryRuns.{HasReported, PrintsTheReport}, proofs.FittingTexts.text_fits, proofs.PlansOfQueries.{plan_sound, plan_spelled, plan_within}}
use Rattle.star_engine.proofs.query_laws.queries_that_fit_are_answered.Goals as goal

pub returns-clause-accepted : goal.returns-clause-accepted
returns-clause-accepted c = λ most database query p loaded meant.
    let w = world_of database in
    let free =
    c.compiled_programs_are_accepted_where_they_fit_the_tables.ensures.fits database most p
    loaded.bounds (plan_sound query p meant) (plan_spelled query p meant)
    in
    let own = text_fits most database query p meant
    (c.plans_fit_where_their_queries_do.ensures most (rows_in database) meant.tree p
    meant.resolved) in
    let admitted =
    c.admissible_programs_within_the_limit_are_not_refused.ensures w most (compiled p) in (
      λ fits. let both = admitted.0 (free.0 (own.0 fits)) in
          record { admissible = both.0; cheap = both.1 },
      λ accepted. own.1 (free.1 (admitted.1 (accepted.admissible, accepted.cheap))),
    )

pub returns-clause-costly : goal.returns-clause-costly
returns-clause-costly c = λ most database p.
    c.compiled_programs_are_accepted_where_they_fit_the_tables.ensures.costly database most p

pub returns-clause-wide : goal.returns-clause-wide
returns-clause-wide c = λ most database query p meant within unfit.
    let own = text_fits most database query p meant
    (c.plans_fit_where_their_queries_do.ensures most (rows_in database) meant.tree p
    meant.resolved) in
    c.compiled_programs_are_accepted_where_they_fit_the_tables.ensures.wide database most p
    (plan_sound query p meant) within (λ fits. unfit (own.1 fits))

pub returns-clause-first : goal.returns-clause-first
returns-clause-first c = λ most database query p meant.
    c.compiled_programs_are_accepted_where_they_fit_the_tables.ensures.first database most p
    (plan_sound query p meant)

-- a run that ends within a quote has reported, where the quote is the number of rows and each end
-- prints the report
ends_reported : (database : Database) (query : List ℕ) (p : Plan) (quoted : ℕ) (end : End)
    → quoted ≡ fact_rows database
    → ((s : State) → end ≡ Ended s → PrintsTheReport database query p s)
    → EndsWithin quoted end → EndsWith end (HasReported database query p)
ends_reported database query p quoted (Ended s) same prints within =
    record { visits = subst (λ n. s.visits ≤ n) same within; printed = prints s (λ i. Ended s) }
ends_reported database query p quoted (Trapped at trap) same prints within = absurd within
ends_reported database query p quoted Limited same prints within = absurd within

pub returns-clause-answered : goal.returns-clause-answered
returns-clause-answered c = λ most database query p loaded meant fits small.
    let w = world_of database in
    let quoted : quote w.size (compiled p) ≡ fact_rows database =
    c.compiled_programs_visit_each_row_once.ensures w.size p in
    let admitted = (returns-clause-accepted c most database query p loaded meant).0 fits in
    let accepted : IsAccepted w (compiled p) =
    record {
      loaded = c.sound_rows_are_loaded.ensures database loaded.sound;
      limits = c.compiled_plans_are_programs.ensures.limits p (plan_within query p meant);
      admissible = admitted.admissible;
      cheap = omega (arith, admitted.cheap, small);
    } in
    ends_reported database query p (quote w.size (compiled p)) _ quoted
    (λ s ended outcome told. c.compiled_programs_report_their_queries.ensures database query
    meant.tree p loaded.sound loaded.rows meant.means meant.named meant.resolved (λ visits. true) s
    outcome ended told) (c.admissible_programs_never_trap.ensures.ends w (compiled p) accepted)
