-- What was read from a source.
use Rattle.std.specs.{Prelude.{◌≡◌, ◌≤◌, ◌<◌, ◌++◌, ◌-◌, ◌^◌, ℕ, List, [], ◌∷◌, Bool, true, false, Option, length}, Io.KnownBytes.{Consumes, IsAtEnd}}
use Rattle.star_statements.specs.{Questions.asked_by, Questions.asked_by_text, Statements.statements_of, declared.sources.Source.Source}

abbrev pub reader_of : {R : Type 0} → Source R → R
reader_of source = source.reader

-- whether a read failed
abbrev pub has_failed : {R : Type 0} → Source R → Bool
has_failed source = source.failed

-- a statement that was read, given the remaining bytes of the reader before and after, the text
-- that was retained, and whether a line ended it. If so, it is the first statement, whatever
-- follows; if not, the reader is at its end, and it is the last
pub record IsStatementRead (old new : Option (List ℕ)) (text : List ℕ) (is_ended : Bool)
    (statement : List ℕ) : Type 0 where
  pub read : Consumes old new statement
  pub asked : asked_by_text text ≡ asked_by statement
  pub first : is_ended ≡ true → (rest : List ℕ)
      → statements_of (statement ++ rest) ≡ statement ∷ statements_of rest
  pub some : is_ended ≡ true → 0 < length statement
  pub last : is_ended ≡ false → statements_of statement ≡ statement ∷ []
  pub at_end : is_ended ≡ false → IsAtEnd new

-- as many bytes as can be counted were read
pub record IsPastCounting (old new : Option (List ℕ)) (read : List ℕ) : Type 0 where
  pub consumed : Consumes old new read
  pub many : 2 ^ 64 - 1 ≤ length read
