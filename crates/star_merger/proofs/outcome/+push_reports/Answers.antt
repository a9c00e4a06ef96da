use Rattle.std.{proofs.Common.{map, subst, sym}, proofs.lemmas.Result.err_from_is_err_and, specs.Prelude.IfErr}
use Rattle.star_merger.{specs.Partials.contents_of, specs.Private.Outcomes.IsUnmerged, proofs.Outcomes.failed_rest}
use Rattle.star_merger.proofs.outcome.+push_reports.Goals as goal

pub returns-in_err-push_report-in-Some-clause-failed :
    goal.returns-in_err-push_report-in-Some-clause-failed
returns-in_err-push_report-in-Some-clause-failed t c = λ p.
    let q = err_from_is_err_and c.from_residual.result c.from_residual.ensures.1 in
    subst (λ partials. IfErr c.from_residual.result (IsUnmerged p (map contents_of partials)))
    (sym c.in-Some.ensures.cases.0)
    (rw (q.1, q.2) (c.in_err-push_report-in-Some.ensures.failed p
    (map contents_of c.in-Some.rest.now)))

pub returns-in_ok-push_report-in-Some-clause-failed :
    goal.returns-in_ok-push_report-in-Some-clause-failed
returns-in_ok-push_report-in-Some-clause-failed t c = λ p.
    failed_rest p c.args.partials.now c.in-Some.rest.now c.in-Some.first.now c.push_reports.result
    c.in-Some.ensures.cases.0 (c.push_reports.ensures.failed p)
