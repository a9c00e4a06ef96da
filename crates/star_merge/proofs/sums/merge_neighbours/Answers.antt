use Rattle.std.proofs.{Common.{◌≡◌, length, rules}, lemmas.Result.err_from_is_err_and}
use Rattle.star_merge.proofs.{Small.small_rest, Steps.{joined_all, joined_more, joined_none}}
use Rattle.star_merge.proofs.sums.merge_neighbours.Goals as goal

pub loop-group-init : goal.loop-group-init
loop-group-init c = search (rules, joined_none)

pub loop-group-preserved : goal.loop-group-preserved
loop-group-preserved c = search (rules, joined_more)

pub returns-in_err-push_group-clause-small : goal.returns-in_err-push_group-clause-small
returns-in_err-push_group-clause-small c = λ small.
    let failed = c.from_residual-in_err-push_group in
    let p = err_from_is_err_and failed.result failed.ensures.1 in
    rw (p.1, p.2) (c.in_err-push_group.ensures.small
    (small_rest c.args.aggregates.now c.args.groups.items c.loop-group.rest.items
    c.pop.new.self.items c.loop-group.merged.items c.in-Some.group c.loop-group.invariant
    c.in-Some.ensures.items small))

pub returns-clause-merged : goal.returns-clause-merged
returns-clause-merged c =
    let none : length c.loop-group.rest.items ≡ 0 = search rules in
    joined_all c.args.aggregates.now c.args.groups.items c.loop-group.rest.items
    c.loop-group.merged.items c.loop-group.invariant none
