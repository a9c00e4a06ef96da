use Rattle.std.proofs.Common.{◌≡◌, ◌+◌, ◌≤◌, drop}
use Rattle.star_program.specs.Faults.{value_count}
use Rattle.star_kinds.proofs.position.value_count.Given as goal

abbrev pub invariant-loop-aggregate : goal.invariant-loop-aggregate
invariant-loop-aggregate l =
    (l.count + value_count (drop l.aggregate-index l.aggregates) ≡ value_count l.aggregates)
    × (l.count ≤ l.aggregate-index)
