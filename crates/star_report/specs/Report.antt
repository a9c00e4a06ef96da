-- The printed report: a line of names and a line for each row, fields separated by bars (this
-- project's profile; ALL: Gray et al. 1997, section 3.3).
use Rattle.std.specs.{Prelude.{◌||◌, ◌++◌, if◌then◌else◌, Bool, ℕ, List, codes, map, nat_eq}, Cmp.Lexicographic.pointwise, Fmt.signed_decimal, List.{flat_map, join_with_byte, starts_with}}
use Rattle.star_common.specs.Quotes.{quoted}
use Rattle.star_program.specs.declared.outcome.Cell.{Cell, TheVariants.Number, TheVariants.Text, TheVariants.All, TheVariants.Null}

-- a text that could be read as ALL or as a quoted text
abbrev pub is_ambiguous : List ℕ → Bool
is_ambiguous text = pointwise nat_eq text (codes "ALL") || starts_with nat_eq text (codes "'")

-- a text, in quotes if it could be read as something else
abbrev pub field_of_text : List ℕ → List ℕ
field_of_text text = if is_ambiguous text then quoted text else text

unfoldable pub cell_text : Cell → List ℕ
cell_text (Number n) = signed_decimal n
cell_text (Text text) = field_of_text text
cell_text All = codes "ALL"
cell_text Null = codes "NULL"

-- fields with a bar between each two, and the end of the line
unfoldable pub line_text : List (List ℕ) → List ℕ
line_text fields = join_with_byte 124 fields ++ codes "\n"

abbrev pub row_text : List Cell → List ℕ
row_text row = line_text (map cell_text row)

unfoldable pub report_text : List (List ℕ) → List (List Cell) → List ℕ
report_text names rows = line_text names ++ flat_map row_text rows
