-- Numbers, registers and names in programs.
use Rattle.std.specs.{Prelude.{◌==◌, ◌&&◌, ◌||◌, if◌then◌else◌, Bool, ℕ, ℤ, List, Option, Some, None, drop, length, nat_le, neg_ℤ, pos}, List.list_all, Option.option_map, Char.is_ascii_alphanumeric, Str.Parse.starts_with_minus}
use Rattle.star_common.specs.Numerals.{numeral_of}
use Rattle.star_program.specs.Text.Lines.{begins_with}

abbrev pub up_to : ℕ → Option ℕ → Option ℕ
up_to most None = None
up_to most (Some n) = if nat_le n most then Some n else None

-- a count or an index: 1 to 4 digits
unfoldable pub count_of : List ℕ → Option ℕ
count_of word = numeral_of 4 word

-- a constant: an optional minus and 1 to 19 digits, within 64 bits
unfoldable pub constant_of : List ℕ → Option ℤ
constant_of word =
    if starts_with_minus word then option_map (λ n. neg_ℤ (pos n)) (up_to 9223372036854775808 (numeral_of 19 (drop 1 word)))
    else option_map pos (up_to 9223372036854775807 (numeral_of 19 word))

-- a register: an r and 1 to 4 digits
unfoldable pub register_of : List ℕ → Option ℕ
register_of word = if begins_with 114 word then count_of (drop 1 word) else None

-- letters, digits and the underscore
abbrev pub is_name_byte : ℕ → Bool
is_name_byte b = is_ascii_alphanumeric b || (b == 95)

-- 1 to 64 of them
unfoldable pub is_show_name : List ℕ → Bool
is_show_name word = nat_le 1 (length word) && nat_le (length word) 64 && list_all is_name_byte word
