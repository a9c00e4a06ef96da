use Rattle.std.proofs.lemmas.List.Elements.{All-head}
use Rattle.star_merger.specs.{Partials.contents_of, Private.Shown.IsUsable}
use Rattle.star_merger.proofs.outcome.push_report.Goals as goal

pub returns-in-None-2-clause-failed : goal.returns-in-None-2-clause-failed
returns-in-None-2-clause-failed c = λ p more. rw c.fault_at.ensures
    (λ usable. c.if-partial-eq0.false
    (All-head IsUsable (contents_of c.args.partial.now) more usable c.in-None-2.is))
