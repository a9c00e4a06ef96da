use Rattle.std.proofs.lemmas.Result.{err_from_is_err_and}
use Rattle.star_merge.proofs.Small.{first_small, rest_small}
use Rattle.star_merge.proofs.totals.+push_merged.Goals as goal

pub returns-in_err-merge_total-in-Some-Some-Some-clause-small :
    goal.returns-in_err-merge_total-in-Some-Some-Some-clause-small
returns-in_err-merge_total-in-Some-Some-Some-clause-small t c = λ small.
    let heads = c.in-Some-Some-Some in
    let p = err_from_is_err_and c.from_residual.result c.from_residual.ensures.1 in
    rw (p.1, p.2) (c.in_err-merge_total-in-Some-Some-Some.ensures.small
    (first_small heads.total.now heads.next.now c.args.totals.now c.args.more.now heads.totals.now
    heads.more.now heads.ensures'.cases.0 heads.ensures''.cases.0 small))

pub returns-in_ok-push-in-Some-Some-Some-clause-small :
    goal.returns-in_ok-push-in-Some-Some-Some-clause-small
returns-in_ok-push-in-Some-Some-Some-clause-small t c = λ small.
    let heads = c.in-Some-Some-Some in
    c.push_merged.ensures.small
    (rest_small heads.total.now heads.next.now c.args.totals.now c.args.more.now heads.totals.now
    heads.more.now heads.ensures'.cases.0 heads.ensures''.cases.0 small)
