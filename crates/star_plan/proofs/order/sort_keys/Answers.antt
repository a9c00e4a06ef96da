use Rattle.std.proofs.Common.{arith, map}
use Rattle.star_query.specs.Views.{name_view, sort_key_view}
use Rattle.star_plan.{specs.Faults.key_fault, specs.Views.names_view, proofs.Exits.reports, proofs.Viewed.answer_found}
use Rattle.star_plan.proofs.order.sort_keys.Goals as goal

pub returns-in_err-sort_key-clause-reported : goal.returns-in_err-sort_key-clause-reported
returns-in_err-sort_key-clause-reported c =
    reports c.from_residual.result _
    (answer_found sort_key_view
    (key_fault (map name_view c.args.groups.now) (names_view c.args.aggregates.now))
    c.args.keys.now c.loop-key.key-index _ _ c.from_residual.result c.from_residual.ensures.1
    (omega arith) c.loop-key.invariant.reported c.key-item.is c.in_err-sort_key.ensures.reported)
