-- The kinds of registers, and the result of a check.
use Rattle.std.specs.Prelude.{◌≡◌, List, map, slice_index_or, Option, Some, None, Result, MatchResult}
use Rattle.star_program.specs.{declared.fault.Fault.Fault, declared.value.Kind.Kind, Faults.Kinds}

-- the kinds of registers, by number; None for an undeclared one
abbrev pub register_kinds : {R : Type 0} → (R → Option Kind) → List R → Kinds
register_kinds kind registers r = slice_index_or (map kind registers) r None

-- Ok without a fault, otherwise the fault
abbrev pub Answers : Result (Unit {0}) Fault → Option Fault → Type 0
Answers result fault = MatchResult result (λ _. fault ≡ None) (λ f. fault ≡ Some f)
