-- The names, numbers and texts of tokens are spelled as the grammar wants.
use Rattle.std.{proofs.Common.{◌≡◌, subst, refl, ℕ, ◌+◌, ◌^◌, ◌<◌, ◌≤◌, Bool, true, ◌&&◌, List, [], ◌∷◌, length, Some, arith}, specs.Prelude.nat_lt, specs.List.list_all, specs.Char.to_ascii_lowercase, specs.Int.is_in_range, specs.Str.Parse.digits_value, proofs.lemmas.Bool.{and_from, and_parts, le-leb, lt-ltb, ltb-true, ltb-false, or_left, or_right}, proofs.lemmas.Int.Digits.digits_value-lt}
use Rattle.star_common.{specs.Numerals.numeral_of, proofs.NumeralLemmas.{all_digits, below_power}}
use Rattle.star_query.{specs.declared.token.Word.Word, specs.Symbols.{Symbol, Placed, name, number, text, symbols, word_symbol, lowered}, specs.Tokens.{is_letter, is_word_byte, begins_with_letter, IsToken, AreTokens, no_more, white_space, a_token}, specs.Spelled.is_printable_text, proofs.Counting.by_bool, proofs.Cuts.numeral_parts}
use Rattle.star_query.specs.declared.token.Word.TheVariants as words

-- as the token is spelled; a name's length is asked for elsewhere
abbrev pub token_is_spelled : Symbol → Bool
token_is_spelled (name word offset) = begins_with_letter word && list_all is_word_byte word
token_is_spelled (number n) = nat_lt n (10 ^ 18)
token_is_spelled (text bytes) = is_printable_text bytes
token_is_spelled _ = true

-- ---- words

in_range : (lo hi c : ℕ) → lo ≤ c → c ≤ hi → is_in_range lo hi c ≡ true
in_range lo hi c low high = and_from _ _ (le-leb lo c low) (le-leb c hi high)

-- a test that all small letters pass is passed by a byte in lower case
lower_passes : (p : ℕ → Bool) → ((c : ℕ) → 97 ≤ c → c ≤ 122 → p c ≡ true) → (b : ℕ) → p b ≡ true
    → p (to_ascii_lowercase b) ≡ true
lower_passes p small b e = grind (arith, by_bool, ltb-false, ltb-true)

small_letter : (c : ℕ) → 97 ≤ c → c ≤ 122 → is_letter c ≡ true
small_letter c low high =
    or_left _ _ (or_right (is_in_range 65 90 c) _ (in_range 97 122 c low high))

small_word_byte : (c : ℕ) → 97 ≤ c → c ≤ 122 → is_word_byte c ≡ true
small_word_byte c low high = or_left _ _ (small_letter c low high)

lowered_passes : (word : List ℕ) → list_all is_word_byte word ≡ true
    → list_all is_word_byte (lowered word) ≡ true
lowered_passes [] e = refl
lowered_passes (b ∷ bs) e =
    let both = and_parts (is_word_byte b) (list_all is_word_byte bs) e in
    and_from _ _ (lower_passes is_word_byte small_word_byte b both.0) (lowered_passes bs both.1)

lowered_begins : (word : List ℕ) → begins_with_letter word ≡ true
    → begins_with_letter (lowered word) ≡ true
lowered_begins [] e = cc
lowered_begins (b ∷ bs) e = lower_passes is_letter small_letter b e

reserved_spelled : (w : Word) (offset : ℕ) → token_is_spelled (word_symbol w offset) ≡ true
reserved_spelled (words.Keyword k) offset = refl
reserved_spelled (words.Fold f) offset = refl
reserved_spelled words.Count offset = refl

-- ---- tokens

few_digits : (bytes : List ℕ) (n : ℕ) → numeral_of 18 bytes ≡ Some n → nat_lt n (10 ^ 18) ≡ true
few_digits bytes n e =
    let (some, few, all, value) = numeral_parts 18 bytes n e in
    let below : digits_value 10 bytes < 10 ^ length bytes =
    digits_value-lt 10 bytes (all_digits bytes all) in
    subst (λ m. nat_lt m (10 ^ 18) ≡ true) value
    (lt-ltb _ _ (below_power (length bytes) 18 (digits_value 10 bytes) below few))

token_spelled : (offset : ℕ) (bytes : List ℕ) (x : Symbol) → IsToken offset bytes x
    → token_is_spelled x ≡ true
unfolding is_printable_text
token_spelled offset bytes x it =
    grind (arith, reserved_spelled, and_parts, and_from, lowered_begins, lowered_passes, few_digits)

pub tokens_spelled : (end : ℕ) (rest : List ℕ) (offset : ℕ) (bytes : List ℕ) (ts : List Placed)
    → AreTokens end rest offset bytes ts → list_all token_is_spelled (symbols ts) ≡ true
tokens_spelled end rest _ _ _ no_more = refl
tokens_spelled end rest _ _ _ (white_space offset b bytes tokens e are) =
    tokens_spelled end rest (offset + 1) bytes tokens are
tokens_spelled end rest _ _ _ (a_token offset word bytes x tokens is over are) =
    and_from _ _ (token_spelled offset word x is)
    (tokens_spelled end rest (offset + length word) bytes tokens are)
