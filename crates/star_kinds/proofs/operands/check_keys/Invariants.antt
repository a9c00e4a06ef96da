use Rattle.std.proofs.Common.{◌≡◌, length, drop}
use Rattle.star_program.specs.Faults.{keys_fault}
use Rattle.star_kinds.specs.Kinds.{register_kinds}
use Rattle.star_kinds.proofs.operands.check_keys.Given as goal

abbrev pub invariant-loop-index : goal.invariant-loop-index
invariant-loop-index g l =
    keys_fault (length l.registers) (register_kinds g.R.Kinded.kind l.registers)
    (drop l.index l.declared) (drop l.index l.keys)
    ≡ keys_fault (length l.registers) (register_kinds g.R.Kinded.kind l.registers) l.declared l.keys
