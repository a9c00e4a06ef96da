use Rattle.star_group.proofs.{Common.◌≤◌, Common.arith, Common.listed_entries, Common.group_with, AllRows.grouped, Contents.if_ok}
use Rattle.star_group.proofs.deferred.coarser.rows_of_base.Goals as goal

pub returns : goal.returns
returns c =
    let d = group_with c.args.shape c.args.key_count c.args.aggregates.now in
    let few : c.args.key_count ≤ 6 = omega (arith, c.requires.key_count, c.args.base.few) in
    if_ok _ _ c.given.result
    (λ rows are puts rolled.
    let all = c.in_ok-add_coarser.ensures.rows puts (omega arith) few rolled in
    are all.once puts (grouped d puts (listed_entries c.add_coarser.new.rows) few all))
    c.given.ensures
