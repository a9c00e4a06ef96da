-- What is declared so far is of the aggregates so far.
use Rattle.std.proofs.Common.{◌≡◌, map, take}
use Rattle.star_plan.specs.{Meaning.aggregate_of, Views.measures_view}
use Rattle.star_compile.proofs.declarations.aggregates.Given as goal

abbrev pub invariant-loop-each : goal.invariant-loop-each
invariant-loop-each l =
    l.declared.items ≡ map aggregate_of (measures_view (take l.each-index l.aggregates))
