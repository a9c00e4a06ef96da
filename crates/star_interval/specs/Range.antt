-- Ranges of whole numbers of any size: which numbers they hold, and the results of operations on
-- them.
use Rattle.std.specs.{Prelude.{◌≡◌, ℕ, ℤ, pos, ◌*ℤ◌, negsuc, ◌≤ℤ◌, FitsSigned, Bool, ◌&&◌, nat_lt, ◌^◌, List, ◌++◌, codes}, Fmt.signed_decimal, Int.{w64, w128, int_min, int_max}}

-- the whole numbers from low to high
pub record Range : Type 0 where
  pub low : ℤ
  pub high : ℤ

-- the number lies in the range
pub record Holds (r : Range) (z : ℤ) : Type 0 where
  pub from : r.low ≤ℤ z
  pub to : z ≤ℤ r.high

-- some number lies in the range
abbrev pub IsOrdered : Range → Type 0
IsOrdered r = r.low ≤ℤ r.high

-- the first range lies in the second, which therefore holds every number of the first
pub record IsWithin (a b : Range) : Type 0 where
  pub from : b.low ≤ℤ a.low
  pub to : a.high ≤ℤ b.high

-- both ends have 64 bits
abbrev pub FitsI64 : Range → Type 0
FitsI64 r = FitsSigned w64 r.low × FitsSigned w64 r.high

-- whether a number has 64 bits; `negsuc n` is -(n + 1)
unfoldable pub is_i64 : ℤ → Bool
is_i64 (pos n) = nat_lt n (2 ^ 63)
is_i64 (negsuc n) = nat_lt n (2 ^ 63)

abbrev pub fits_i64 : Range → Bool
fits_i64 r = is_i64 r.low && is_i64 r.high

-- both ends have 128 bits
abbrev pub FitsI128 : Range → Type 0
FitsI128 r = FitsSigned w128 r.low × FitsSigned w128 r.high

-- whether a number has 128 bits
unfoldable pub is_i128 : ℤ → Bool
is_i128 (pos n) = nat_lt n (2 ^ 127)
is_i128 (negsuc n) = nat_lt n (2 ^ 127)

-- the least range that holds every number of a kind: it holds each, and both its ends are of the
-- kind
pub record IsLeast (Kind : ℤ → Type 0) (r : Range) : Type 0 where
  pub holds : (z : ℤ) → Kind z → Holds r z
  pub low : Kind r.low
  pub high : Kind r.high

-- the number is the result of some pair of values in the operands
pub record IsResult (operation : ℤ → ℤ → ℤ) (a b : Range) (z : ℤ) : Type 0 where
  pub left : ℤ
  pub right : ℤ
  pub left_held : Holds a left
  pub right_held : Holds b right
  pub gives : operation left right ≡ z

-- the number is n times a value in the range
pub record IsMultiple (n : ℕ) (r : Range) (z : ℤ) : Type 0 where
  pub value : ℤ
  pub held : Holds r value
  pub gives : pos n *ℤ value ≡ z

-- ---- computed from the ends

-- one number
abbrev pub only : ℤ → Range
only z = record { low = z; high = z }

-- from the lesser low end to the greater high end
abbrev pub hull : Range → Range → Range
hull a b = record { low = int_min a.low b.low; high = int_max a.high b.high }

-- the least and the greatest result over the corners, the four pairs of ends (Moore, Interval
-- Analysis, 1966)
abbrev pub corner_range : (ℤ → ℤ → ℤ) → Range → Range → Range
corner_range operation a b =
    hull (hull (only (operation a.low b.low)) (only (operation a.low b.high)))
    (hull (only (operation a.high b.low)) (only (operation a.high b.high)))

-- n times each end
abbrev pub multiple_range : ℕ → Range → Range
multiple_range n r = record { low = pos n *ℤ r.low; high = pos n *ℤ r.high }

-- ---- text

-- the two ends with two dots between them, as `-5..10`
abbrev pub text_of : Range → List ℕ
text_of r = signed_decimal r.low ++ (codes ".." ++ signed_decimal r.high)
