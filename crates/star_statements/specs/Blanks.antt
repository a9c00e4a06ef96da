-- Blanks: before a statement, and after the semicolon that ends it.
use Rattle.std.specs.Prelude.{ℕ, List, [], ◌∷◌, Bool, false, if◌then◌else◌}
use Rattle.star_common.specs.WhiteSpace.{is_blank}

-- whether a text begins with a blank
abbrev pub is_blank_at_front : List ℕ → Bool
is_blank_at_front [] = false
is_blank_at_front (c ∷ rest) = is_blank c

-- a text from its first byte that is not a blank
unfoldable pub without_blanks : List ℕ → List ℕ
without_blanks [] = []
without_blanks (c ∷ rest) = if is_blank c then without_blanks rest else c ∷ rest
