use Rattle.star_engine.{specs.QuoteTexts.{IsQuoteErrorOver, is_program_file}, specs.RunTexts.IsForecastErrorOver, proofs.QueryFaults.or_memory, proofs.RunTextLemmas.unread}
use Rattle.star_service.proofs.reports.forecast_of.Goals as goal

pub returns-in-Ok : goal.returns-in-Ok
returns-in-Ok c =
    let file = c.args.file.now in
    c.forecast.ensures (is_program_file file) file c.in-Ok.ensures

pub returns-in-Err : goal.returns-in-Err
returns-in-Err c =
    let visits = c.args.engine.now.visits in
    let database = c.args.engine.now.database in
    let file = c.args.file.now in
    or_memory (IsQuoteErrorOver file) (IsForecastErrorOver visits database file) c.in-Err.fault
    (unread (is_program_file file) visits database file) c.in-Err.ensures
