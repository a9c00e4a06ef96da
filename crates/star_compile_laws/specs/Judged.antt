-- The refusal of a compiled program that leaves 64 bits.
use Rattle.std.specs.Prelude.{◌≡◌, ℕ, ℤ, List, Option, Some}
use Rattle.star_safety.specs.{declared.reason.Reached.Reached, declared.reason.Reason.TheVariants.Overflow, Admissible.Refusal, Admissible.Refused}

-- an instruction is refused since a range leaves 64 bits
abbrev pub IsOverflow : Option Refusal → Type 0
IsOverflow o =
    (at : ℕ) × (low : ℤ) × (high : ℤ) × (columns : List Reached)
    × (o ≡ Some (Refused (at, Overflow low high columns)))
