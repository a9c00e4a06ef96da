-- The width of a packed column's words.
use Rattle.std.specs.{Prelude.{◌^◌, if◌then◌else◌, ℕ, ℤ, ◌-ℤ◌, List, nat_lt}, Int.RustNames.unsigned_abs}
use Rattle.star_schema.specs.Bounds.{least, greatest}

-- the least of 8, 16, 32 and 64 bits in which a number below 2 ^ 64 fits
unfoldable pub least_width : ℕ → ℕ
least_width n =
    if nat_lt n (2 ^ 8) then 8
    else if nat_lt n (2 ^ 16) then 16 else if nat_lt n (2 ^ 32) then 32 else 64

-- numbers of 64 bits are kept as differences from the least, in the least width in which the
-- difference of the bounds fits; that difference is 0 without numbers
unfoldable pub bits_of : List ℤ → ℕ
bits_of numbers = least_width (unsigned_abs (greatest numbers -ℤ least numbers))
