use Rattle.star_engine.proofs.Trials.{report_some}
use Rattle.star_engine.proofs.executions.report_of.Goals as goal

pub returns-clause-some : goal.returns-clause-some
returns-clause-some c = rw c.in_ok-report_text.ensures
    (report_some c.in_ok-outcome.outcome.names c.in_ok-outcome.outcome.rows)
