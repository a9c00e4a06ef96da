-- The tokens of a text by a function, as the code cuts them: worked rows compute it. It is proved
-- to be `AreTokens` and `IsStopped`.
use Rattle.std.specs.{Prelude.{ℕ, zero, suc, ◌+◌, ◌-◌, nat_lt, Bool, true, false, ◌==◌, ◌||◌, if◌then◌else◌, List, [], ◌∷◌, drop, take, nat_eq, Option, Some, None, Result, Ok, Err}, List.{prefix_len, slice_get}, Char.is_ascii_digit, Str.Parse.digits_value, Cmp.Lexicographic.pointwise}
use Rattle.star_common.specs.{WhiteSpace.is_blank, Printable.is_printable}
use Rattle.star_schema.specs.Words.{named}
use Rattle.star_query.specs.declared.token.Keyword.TheVariants as k
use Rattle.star_query.specs.declared.token.Fold.TheVariants as folds
use Rattle.star_query.specs.{declared.token.Word.Word, declared.fault.QueryFault.QueryFault, declared.fault.QueryFault.TheVariants.{BadCharacter, BadNumber, OpenText}, Maxima.most_digits, Tokens.{is_letter, is_word_byte, begins_with_letter}, Symbols.{Symbol, Placed, relation, sign, additive, name, number, text, spelling, word_symbol, lowered}}
use Rattle.star_query.specs.declared.token.Word.TheVariants as words
use Rattle.star_query.specs.declared.token.Relation.TheVariants as r
use Rattle.star_query.specs.declared.token.Sign.TheVariants as s
use Rattle.star_query.specs.declared.token.Additive.TheVariants as q

-- what begins at a position: white space, a token and how many bytes it has, or a fault
pub data Piece : Type 0 where
  blank : Piece
  token : Symbol → (width : ℕ) → Piece
  bad : QueryFault → Piece

-- all reserved words
unfoldable pub reserved_words : List Word
reserved_words =
    words.Keyword k.Select ∷ words.Keyword k.From ∷ words.Keyword k.Where ∷ words.Keyword k.Group
    ∷ words.Keyword k.By ∷ words.Keyword k.Order ∷ words.Keyword k.As
    ∷ words.Keyword k.And ∷ words.Keyword k.Or ∷ words.Keyword k.Not ∷ words.Keyword k.Between
    ∷ words.Keyword k.Cube ∷ words.Keyword k.Rollup ∷ words.Keyword k.Asc
    ∷ words.Keyword k.Desc ∷ words.Fold folds.Sum ∷ words.Fold folds.Min ∷ words.Fold folds.Max
    ∷ words.Count ∷ []

-- whether a word is this reserved word, in any case
abbrev pub is_spelled : List ℕ → Word → Bool
is_spelled word reserved = pointwise nat_eq (spelling reserved) (lowered word)

-- the reserved word that a word is, if it is one
unfoldable pub reserved : List ℕ → Option Word
reserved word = named spelling reserved_words (lowered word)

-- a reserved word, or a name in lower case
abbrev pub word_of : ℕ → List ℕ → Symbol
word_of offset word = named (reserved word)
  where
    named : Option Word → Symbol
    named None = name (lowered word) offset
    named (Some w) = word_symbol w offset

-- the longest run of letters, digits and _
abbrev pub word_piece : ℕ → List ℕ → Piece
word_piece offset bytes =
    let width = prefix_len is_word_byte bytes in token (word_of offset (take width bytes)) width

-- the longest run of digits: not too many, and no letter after it
abbrev pub number_piece : ℕ → List ℕ → Piece
number_piece offset bytes =
    let width = prefix_len is_ascii_digit bytes in
    if nat_lt most_digits width
    || begins_with_letter (drop width bytes) then bad (BadNumber offset) else token
    (number (digits_value 10 (take width bytes))) width

-- ---- texts

-- how a text ends: by its closing quote, after this many bytes; at a byte that it may not contain;
-- or not at all
pub data Ending : Type 0 where
  closed : ℕ → Ending
  stopped : ℕ → Ending
  open_ended : Ending

abbrev pub farther : Ending → Ending
farther (closed n) = closed (n + 1)
farther (stopped n) = stopped (n + 1)
farther open_ended = open_ended

-- whether a text goes on with a byte, and whether that byte is then a quote that closes the text
-- unless another follows
abbrev pub text_goes_on : (a_quote : Bool) → ℕ → Option Bool
text_goes_on true b = if b == 39 then Some false else None
text_goes_on false b = if b == 39 then Some true else if is_printable b then Some false else None

-- the end of a text, after a quote that closes it unless another one follows, or after any other
-- byte
abbrev pub ending_after : (a_quote : Bool) → List ℕ → Ending
ending_after q [] = if q then closed 0 else open_ended
ending_after q (b ∷ bs) = behind (text_goes_on q b) (λ p. ending_after p bs)
  where
    behind : Option Bool → (Bool → Ending) → Ending
    behind None rest = if q then closed 0 else stopped 0
    behind (Some p) rest = farther (rest p)

-- of two quotes in a row the second is dropped
abbrev pub unquoted_after : (a_quote : Bool) → List ℕ → List ℕ
unquoted_after q [] = []
unquoted_after true (b ∷ bs) = unquoted_after false bs
unquoted_after false (b ∷ bs) = b ∷ unquoted_after (b == 39) bs

-- what a text says, of whose quotes each is doubled
abbrev pub undoubled : List ℕ → List ℕ
undoubled inside = unquoted_after false inside

-- a text, from after its opening quote
abbrev pub text_piece : ℕ → List ℕ → Piece
text_piece offset bytes = ended (ending_after false bytes)
  where
    ended : Ending → Piece
    ended (closed n) = token (text (undoubled (take (n - 1) bytes))) (n + 1)
    ended (stopped n) = bad (BadCharacter (offset + 1 + n))
    ended open_ended = bad (OpenText offset)

-- ---- signs

abbrev pub less_piece : Option ℕ → Piece
less_piece None = token (relation r.Less) 1
less_piece (Some b) =
    if b == 61 then token (relation r.AtMost) 2 else if b == 62 then token
    (relation r.Unequal) 2 else token (relation r.Less) 1

abbrev pub greater_piece : Option ℕ → Piece
greater_piece None = token (relation r.Greater) 1
greater_piece (Some b) =
    if b == 61 then token (relation r.AtLeast) 2 else token (relation r.Greater) 1

-- a sign, the longest that fits
abbrev pub sign_piece : ℕ → ℕ → Option ℕ → Piece
sign_piece offset b next =
    if b == 44
    then token (sign s.Comma) 1
    else if b == 40
    then token (sign s.Open) 1
    else if b == 41
    then token (sign s.Close) 1
    else if b == 42
    then token (sign s.Star) 1
    else if b == 43
    then token (additive q.Plus) 1
    else if b == 45
    then token (additive q.Minus) 1
    else if b == 59
    then token (sign s.Semicolon) 1
    else if b == 61
    then token (relation r.Equal) 1
    else if b == 60
    then less_piece next
    else if b == 62
    then greater_piece next
    else bad (BadCharacter offset)

-- ---- the whole text

-- what begins with this byte, before these
abbrev pub piece_at : ℕ → ℕ → List ℕ → Piece
piece_at offset b bs =
    if is_blank b
    then blank
    else if is_letter b
    then word_piece offset (b ∷ bs)
    else if is_ascii_digit b
    then number_piece offset (b ∷ bs)
    else if b == 39
    then text_piece offset bs
    else sign_piece offset b (slice_get bs 0)

-- one more in front of the pieces so far
abbrev pub put_in_front : {A : Type 0} → A → Result (List A) QueryFault → Result (List A) QueryFault
put_in_front x (Ok xs) = Ok (x ∷ xs)
put_in_front x (Err e) = Err e

-- a piece, and the cut after its first byte and as many more
abbrev pub before_rest : ℕ → Piece → (ℕ → Result (List Placed) QueryFault)
    → Result (List Placed) QueryFault
before_rest offset blank rest = rest 0
before_rest offset (token x width) rest =
    put_in_front (record { symbol = x; offset = offset }) (rest (width - 1))
before_rest offset (bad e) rest = Err e

-- the tokens from a position on, whose first bytes lie inside a token before
unfoldable pub cut_from : (offset inside : ℕ) → List ℕ → Result (List Placed) QueryFault
cut_from offset inside [] = Ok []
cut_from offset (suc inside) (b ∷ bs) = cut_from (offset + 1) inside bs
cut_from offset zero (b ∷ bs) =
    before_rest offset (piece_at offset b bs) (λ inside. cut_from (offset + 1) inside bs)

-- the tokens of a text, or its first fault from the left
abbrev pub cut_of : List ℕ → Result (List Placed) QueryFault
cut_of bytes = cut_from 0 0 bytes
