-- The first field of what is left of a line.
use Rattle.std.specs.{Prelude.{◌≡◌, ◌⊎◌, ◌<◌, ◌≤◌, ◌||◌, Bool, ℕ, List, [], true, not, if◌then◌else◌, drop, get_or, length, nat_le, take}, List.list_all}
use Rattle.star_common.specs.Printable.{is_printable}
use Rattle.star_schema.specs.Records.{fields_of, is_bar}

abbrev pub is_plain : ℕ → Bool
is_plain b = not (is_bar b)

-- a byte that ends a cell, or may not be in one
abbrev pub is_stop : ℕ → Bool
is_stop b = is_bar b || not (is_printable b)

-- the first field of a text has `count` bytes
pub record IsFront (text : List ℕ) (count : ℕ) : Type 0 where
  pub within : count ≤ length text
  pub plain : list_all is_plain (take count text) ≡ true
  pub end : (count ≡ length text) ⊎ ((count < length text) × (get_or text count 0 ≡ 124))

-- a text is what a line has from a position on
pub record IsEndOf (line text : List ℕ) : Type 0 where
  pub at : ℕ
  pub within : at ≤ length line
  pub is : text ≡ drop at line

-- the fields of a line from a position on: none if the position is after its end
abbrev pub left_of : List ℕ → ℕ → List (List ℕ)
left_of line at = if nat_le at (length line) then fields_of (drop at line) else []
