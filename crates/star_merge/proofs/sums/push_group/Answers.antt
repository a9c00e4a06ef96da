use Rattle.std.proofs.{Common.{◌∙◌, reverse, sym}, lemmas.Result.err_from_is_err_and}
use Rattle.star_merge.proofs.Small.{small_alone, small_joined}
use Rattle.star_merge.proofs.sums.push_group.Goals as goal

pub returns-in_err-merge_into-in-None-clause-small :
    goal.returns-in_err-merge_into-in-None-clause-small
returns-in_err-merge_into-in-None-clause-small c = λ small.
    let p = err_from_is_err_and c.from_residual.result c.from_residual.ensures.1 in
    rw (p.1, p.2) (c.in_err-merge_into-in-None.ensures.small
    (small_alone c.args.group c.args.aggregates.now c.args.nothing.now
    (reverse c.args.groups.now.items) c.requires small))

pub returns-in_err-merge_into-in-Some-clause-small :
    goal.returns-in_err-merge_into-in-Some-clause-small
returns-in_err-merge_into-in-Some-clause-small c = λ small.
    let failed = c.from_residual-in_err-merge_into-in-Some in
    let p = err_from_is_err_and failed.result failed.ensures.1 in
    rw (p.1, p.2) (c.in_err-merge_into-in-Some.ensures.small
    (rw c.totals.ensures (small_joined c.args.group c.in-Some.last c.args.groups.now.items
    c.pop.new.self.items c.in-Some.ensures.items (sym c.has_keys_of.ensures ∙ c.if-has_keys_of.true)
    small)))

pub returns-in_err-merge_into-in-Some-2-clause-small :
    goal.returns-in_err-merge_into-in-Some-2-clause-small
returns-in_err-merge_into-in-Some-2-clause-small c = λ small.
    let failed = c.from_residual-in_err-merge_into-in-Some-2 in
    let p = err_from_is_err_and failed.result failed.ensures.1 in
    rw (p.1, p.2) (c.in_err-merge_into-in-Some-2.ensures.small
    (small_alone c.args.group c.args.aggregates.now c.args.nothing.now
    (reverse c.args.groups.now.items) c.requires small))
