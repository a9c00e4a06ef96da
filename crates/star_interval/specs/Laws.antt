-- Properties of every operation on two ranges.
use Rattle.std.specs.Prelude.{ℤ}
use Rattle.star_interval.specs.Range.{Range, Holds, IsOrdered, IsWithin}

-- the resulting range holds the result of each pair of values in the operands
abbrev pub KeepsValues : (ℤ → ℤ → ℤ) → (Range → Range → Range) → Type 0
KeepsValues operation made =
    (a b : Range) (x y : ℤ) → Holds a x → Holds b y → Holds (made a b) (operation x y)

-- smaller operands have a smaller result
abbrev pub KeepsOrder : (Range → Range → Range) → Type 0
KeepsOrder made =
    (a b c d : Range) → IsOrdered a → IsOrdered b → IsWithin a c → IsWithin b d
    → IsWithin (made a b) (made c d)
