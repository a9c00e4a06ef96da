-- Decimal numbers.
use Rattle.std.specs.{Prelude.{◌&&◌, if◌then◌else◌, Bool, ℕ, List, Option, Some, None, length, nat_le}, Char.is_ascii_digit, List.list_all, Str.Parse.digits_value}

-- 1 to `width` digits
abbrev pub is_numeral : ℕ → List ℕ → Bool
is_numeral width text =
    nat_le 1 (length text) && nat_le (length text) width && list_all is_ascii_digit text

-- the number that 1 to `width` digits write
abbrev pub numeral_of : ℕ → List ℕ → Option ℕ
numeral_of width text = if is_numeral width text then Some (digits_value 10 text) else None
