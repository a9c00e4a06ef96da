use Rattle.std.specs.Prelude.{string_bytes}
use Rattle.star_engine.{specs.Private.Steps.IsNotVerified, specs.RunTexts.{IsForecastErrorOfKind, IsForecastOfKind, IsProgramForecast}, proofs.RunTextLemmas.{forecast_error, judged, matched_as}}
use Rattle.star_engine.proofs.engine.Engine.forecast.Goals as goal

pub returns : goal.returns
returns c = λ is_program file asks.
    let most = c.self.inside.limits.visits in
    let database = c.self.inside.catalogue in
    let program = c.args.question.program in
    let laws = c.each_query_has_laws.ensures most file in
    rw (← c.self.view_is)
    (matched_as (λ line. IsProgramForecast database most program (string_bytes line))
    (λ line. IsForecastOfKind is_program most database file (string_bytes line))
    (IsNotVerified database most program) (IsForecastErrorOfKind is_program most database file)
    c.forecast.result
    (λ line. judged most database file program laws is_program asks (string_bytes line))
    (forecast_error most database file program laws is_program asks) c.forecast.ensures)
