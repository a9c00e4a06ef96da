use Rattle.std.proofs.Common.{◌∙◌, ap}
use Rattle.star_engine.specs.Notes.{quote_line}
use Rattle.star_engine.proofs.executions.run_text.Goals as goal

pub returns : goal.returns
returns c = λ most accepted. record {
  accepted = accepted;
  outcome = c.in_ok-outcome.outcome;
  yields = c.in_ok-outcome.ensures.outcome;
  within = c.in_ok-outcome.ensures.visits;
  quoted = c.in_ok-quoted.ensures ∙ ap quote_line c.quote.ensures;
  reported = c.in_ok-report.ensures;
  done = c.in_ok-done.ensures;
}
