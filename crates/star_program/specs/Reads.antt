-- The value of a register.
use Rattle.std.specs.Prelude.{◌≡◌, Bool, true, Option, Some, None}
use Rattle.star_program.specs.declared.value.Kind.{Kind}

-- a register has a value of an allowed kind
abbrev pub IsTaken : (Kind → Bool) → Option Kind → Type 0
IsTaken takes None = ⊥
IsTaken takes (Some k) = takes k ≡ true
