-- A statement that is being read.
use Rattle.std.specs.{Prelude.{◌≡◌, ◌==◌, ◌&&◌, ◌||◌, ◌++◌, ℕ, List, [], ◌∷◌, Bool, true, false, Option, if◌then◌else◌, length, nat_lt, take}, Io.KnownBytes.Consumes}
use Rattle.star_statements.specs.{Blanks.without_blanks, Statements.joined_to_first, Statements.statements_of}
use Rattle.star_common.specs.WhiteSpace.{is_blank}

-- the retained text of a statement: leading blanks are dropped, and at most one byte above the
-- maximum length is retained
unfoldable pub kept : List ℕ → List ℕ
kept statement = take 65537 (without_blanks statement)

abbrev pub is_empty : List ℕ → Bool
is_empty [] = true
is_empty (c ∷ rest) = false

-- the retained text after one more byte
abbrev pub with_byte : List ℕ → ℕ → List ℕ
with_byte text c =
    if (is_empty text && is_blank c) || nat_lt 65536 (length text) then text
    else text ++ c ∷ []

-- whether there is a semicolon with only blanks after it, after one more byte
abbrev pub ends_behind : Bool → ℕ → Bool
ends_behind ends c = (c == 59) || (ends && is_blank c)

-- whether a byte ends a statement: it is the line end after such a semicolon
abbrev pub closes_statement : Bool → ℕ → Bool
closes_statement ends c = ends && (c == 10)

-- a text, cut after each line end before which there is a semicolon, blanks ignored; the flag says
-- whether there is such a semicolon before the text
unfoldable pub cut_statements : Bool → List ℕ → List (List ℕ)
cut_statements ends [] = [] ∷ []
cut_statements ends (c ∷ rest) =
    if closes_statement ends c then (c ∷ []) ∷ cut_statements false rest
    else joined_to_first (c ∷ []) (cut_statements (ends_behind ends c) rest)

-- a statement that no line has ended yet, given the remaining bytes of the reader before and after
-- it
pub record IsDraft (old new : Option (List ℕ)) (text : List ℕ) (ends : Bool)
    (begun : List ℕ) : Type 0 where
  pub read : Consumes old new begun
  pub keeps : text ≡ kept begun
  pub splits : (rest : List ℕ)
      → statements_of (begun ++ rest) ≡ joined_to_first begun (cut_statements ends rest)
