-- The numbers so far and those to come are the numbers.
use Rattle.std.proofs.Common.{drop, []}
use Rattle.star_plan.specs.Views.{measures_view}
use Rattle.star_compile.{specs.Private.Emitted.values_after, proofs.Emits.Follows}
use Rattle.star_compile.proofs.emitter.Emitter.values.Given as goal

abbrev pub invariant-loop-aggregate : goal.invariant-loop-aggregate
invariant-loop-aggregate l =
    Follows l.fn.self l.self (values_after l.joins (measures_view l.aggregates) [])
    (values_after l.joins (measures_view (drop l.aggregate-index l.aggregates)) l.registers.items)
