use Rattle.star_engine.{specs.Executions.IsProgramRun, specs.Private.Steps.IsNotVerified, specs.RunTexts.{IsForecastErrorOfKind, IsRunOfKind, run_text_of}, proofs.RunTextLemmas.{forecast_error, matched_as, ran}}
use Rattle.star_engine.proofs.engine.Engine.report.Goals as goal

pub returns : goal.returns
returns c = λ is_program file asks.
    let most = c.self.inside.limits.visits in
    let database = c.self.inside.catalogue in
    let program = c.args.question.program in
    let laws = c.each_query_has_laws.ensures most file in
    rw (← c.self.view_is) (matched_as (λ t. IsProgramRun database most program (run_text_of t))
    (λ t. IsRunOfKind is_program most database file (run_text_of t))
    (IsNotVerified database most program) (IsForecastErrorOfKind is_program most database file)
    c.run_checked.result (λ t. ran most database file program laws is_program asks (run_text_of t))
    (forecast_error most database file program laws is_program asks) c.run_checked.ensures)
