-- How tokens are written, and what stops a text from being cut (this project's profile of SQL).
use Rattle.std.specs.{Prelude.{◌≡◌, ◌≢◌, ℕ, ◌+◌, ◌<◌, ◌≤◌, ◌⊎◌, Bool, true, false, ◌==◌, ◌||◌, ◌&&◌, not, List, [], ◌∷◌, ◌++◌, codes, length, Contains, Some}, List.{flat_map, list_all}, Char.{is_ascii_alphabetic, is_ascii_digit}}
use Rattle.star_common.specs.{Numerals.numeral_of, Quotes.doubled, Quotes.quoted, Printable.is_printable, WhiteSpace.is_blank}
use Rattle.star_query.specs.{Symbols.{Symbol, Placed, relation, sign, additive, name, number, text, spelling, word_symbol, lowered}, declared.token.Word.Word, declared.fault.QueryFault.QueryFault, declared.fault.QueryFault.TheVariants.{BadCharacter, BadNumber, OpenText}, Maxima.most_digits}
use Rattle.star_query.specs.declared.token.Relation.TheVariants as r
use Rattle.star_query.specs.declared.token.Sign.TheVariants as s
use Rattle.star_query.specs.declared.token.Additive.TheVariants as q

-- ---- tokens

abbrev pub is_letter : ℕ → Bool
is_letter b = is_ascii_alphabetic b || (b == 95)

abbrev pub is_word_byte : ℕ → Bool
is_word_byte b = is_letter b || is_ascii_digit b

abbrev pub begins_with_letter : List ℕ → Bool
begins_with_letter [] = false
begins_with_letter (b ∷ bs) = is_letter b

-- letters, digits and _, and no digit first
abbrev pub is_word : List ℕ → Bool
is_word bytes = begins_with_letter bytes && list_all is_word_byte bytes

-- the signs as they are written, those of two bytes first
abbrev pub signs : List (List ℕ × Symbol)
signs =
    (codes "<=", relation r.AtMost) ∷ (codes "<>", relation r.Unequal) ∷ (codes ">=", relation r.AtLeast)
    ∷ (codes "<", relation r.Less) ∷ (codes ">", relation r.Greater) ∷ (codes "=", relation r.Equal)
    ∷ (codes ",", sign s.Comma) ∷ (codes "(", sign s.Open) ∷ (codes ")", sign s.Close) ∷ (codes "*", sign s.Star)
    ∷ (codes ";", sign s.Semicolon) ∷ (codes "+", additive q.Plus) ∷ (codes "-", additive q.Minus) ∷ []

-- the bytes of a token that begins at a position, and its symbol: a reserved word in any case; a
-- name, which is any other word, in lower case; a number; a text in quotes; or a sign
pub data IsToken (offset : ℕ) (bytes : List ℕ) (x : Symbol) : Type 0 where
  a_word : is_word bytes ≡ true → (w : Word) → lowered bytes ≡ spelling w → x ≡ word_symbol w offset → IsToken offset bytes x
  a_name : is_word bytes ≡ true → ((w : Word) → lowered bytes ≢ spelling w) → x ≡ name (lowered bytes) offset → IsToken offset bytes x
  a_number : (n : ℕ) → numeral_of most_digits bytes ≡ Some n → x ≡ number n → IsToken offset bytes x
  a_text : (said : List ℕ) → list_all is_printable said ≡ true → bytes ≡ quoted said → x ≡ text said → IsToken offset bytes x
  a_sign : Contains signs (bytes, x) → IsToken offset bytes x

-- whether a byte after a token would be one of it: each token is the longest that begins at its
-- position
abbrev pub continues : Symbol → ℕ → Bool
continues (text said) b = b == 39
continues (relation r.Less) b = (b == 61) || (b == 62)
continues (relation r.Greater) b = b == 61
continues (relation _) b = false
continues (sign _) b = false
continues (additive _) b = false
continues _ b = is_word_byte b

abbrev pub is_whole : Symbol → List ℕ → Bool
is_whole x [] = true
is_whole x (b ∷ bs) = not (continues x b)

-- the bytes from a position on are white space and these tokens, up to the remaining bytes after
-- these
pub data AreTokens (end : ℕ) (rest : List ℕ) : (offset : ℕ) → (bytes : List ℕ) → List Placed → Type 0 where
  no_more : AreTokens end rest end rest []
  white_space : (offset b : ℕ) (bytes : List ℕ) (tokens : List Placed) → is_blank b ≡ true
      → AreTokens end rest (offset + 1) bytes tokens → AreTokens end rest offset (b ∷ bytes) tokens
  a_token : (offset : ℕ) (word bytes : List ℕ) (x : Symbol) (tokens : List Placed) → IsToken offset word x → is_whole x bytes ≡ true
      → AreTokens end rest (offset + length word) bytes tokens
      → AreTokens end rest offset (word ++ bytes) (record { symbol = x; offset = offset } ∷ tokens)

-- ---- faults

-- what stops the cut: digits that are too many, or that a letter follows; a text that nothing
-- closes; a byte that is not allowed in a text; or one that no token begins with, and that is no
-- white space. Each quote of a text is written twice
pub data Stops (offset : ℕ) : (bytes : List ℕ) → QueryFault → Type 0 where
  bad_number : (digits rest : List ℕ) → 1 ≤ length digits → list_all is_ascii_digit digits ≡ true
      → (most_digits < length digits) ⊎ (begins_with_letter rest ≡ true) → Stops offset (digits ++ rest) (BadNumber offset)
  open_text : (said : List ℕ) → list_all is_printable said ≡ true → Stops offset (39 ∷ flat_map doubled said) (OpenText offset)
  bad_byte : (said rest : List ℕ) (b : ℕ) → list_all is_printable said ≡ true → is_printable b ≡ false
      → Stops offset (39 ∷ (flat_map doubled said ++ b ∷ rest)) (BadCharacter (offset + 1 + length (flat_map doubled said)))
  stray : (b : ℕ) (bytes : List ℕ) → is_blank b ≡ false → is_word_byte b ≡ false → (b == 39) ≡ false
      → ((sign : List ℕ) (x : Symbol) (rest : List ℕ) → Contains signs (sign, x) → b ∷ bytes ≡ sign ++ rest → ⊥)
      → Stops offset (b ∷ bytes) (BadCharacter offset)

-- white space and tokens, and then what stops the cut
pub record IsStopped (bytes : List ℕ) (fault : QueryFault) : Type 0 where
  pub tokens : List Placed
  pub end : ℕ
  pub rest : List ℕ
  pub before : AreTokens end rest 0 bytes tokens
  pub stops : Stops end rest fault
