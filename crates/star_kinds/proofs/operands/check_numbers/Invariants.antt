use Rattle.std.proofs.Common.{◌≡◌, length, drop}
use Rattle.star_program.specs.Faults.{numbers_fault}
use Rattle.star_kinds.specs.Kinds.{register_kinds}
use Rattle.star_kinds.proofs.operands.check_numbers.Given as goal

abbrev pub invariant-loop-value : goal.invariant-loop-value
invariant-loop-value g l =
    numbers_fault (length l.registers) (register_kinds g.R.Kinded.kind l.registers)
    (drop l.value-index l.values)
    ≡ numbers_fault (length l.registers) (register_kinds g.R.Kinded.kind l.registers) l.values
