use Rattle.std.proofs.lemmas.Result.{err_from_is_err_and}
use Rattle.star_merger.proofs.Outcomes.{failed_rest}
use Rattle.star_merger.proofs.outcome.+counts_of.Goals as goal

pub returns-in_err-lookups-in-Some-clause-failed : goal.returns-in_err-lookups-in-Some-clause-failed
returns-in_err-lookups-in-Some-clause-failed t c = λ plan.
    let p = err_from_is_err_and c.from_residual.result c.from_residual.ensures.1 in
    failed_rest plan c.args.partials.now c.in-Some.rest.now c.in-Some.first.now
    c.from_residual.result
    c.in-Some.ensures.cases.0 (rw (p.1, p.2) (c.in_err-lookups-in-Some.ensures.failed plan))
