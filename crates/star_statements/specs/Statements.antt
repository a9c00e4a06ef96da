-- The statements of a text. A statement is the lines up to one that ends with a semicolon, trailing
-- blanks ignored; the lines after the last of these are the last statement.
use Rattle.std.specs.{Prelude.{◌==◌, ◌&&◌, ◌||◌, ◌++◌, ℕ, List, [], ◌∷◌, Bool, false, if◌then◌else◌}, List.list_all}
use Rattle.star_common.specs.WhiteSpace.{is_blank}

-- a piece of a text joined to the first of those that follow it
unfoldable pub joined_to_first : List ℕ → List (List ℕ) → List (List ℕ)
joined_to_first piece [] = piece ∷ []
joined_to_first piece (first ∷ others) = (piece ++ first) ∷ others

-- the lines of a text, each with its line end; the last is the bytes after the last line end
unfoldable pub statement_lines : List ℕ → List (List ℕ)
statement_lines [] = [] ∷ []
statement_lines (c ∷ rest) =
    if c == 10 then (c ∷ []) ∷ statement_lines rest else joined_to_first (c ∷ []) (statement_lines rest)

-- whether a line has a semicolon with only blanks after it
unfoldable pub ends_statement : List ℕ → Bool
ends_statement [] = false
ends_statement (c ∷ rest) = ((c == 59) && list_all is_blank rest) || ends_statement rest

-- the lines, joined up to each that ends a statement
unfoldable pub statements_in : List (List ℕ) → List (List ℕ)
statements_in [] = []
statements_in (line ∷ []) = line ∷ []
statements_in (line ∷ (next ∷ lines)) =
    if ends_statement line then line ∷ statements_in (next ∷ lines)
    else joined_to_first line (statements_in (next ∷ lines))

abbrev pub statements_of : List ℕ → List (List ℕ)
statements_of text = statements_in (statement_lines text)
