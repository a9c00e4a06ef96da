-- The words of a written line, and what each is read as.
use Rattle.std.{specs.Prelude.{decimal, filter, nat_le, nat_lt, not, ℤ, pos, negsuc}, specs.Cmp.Lexicographic.bytes_decides, specs.Char.is_ascii_digit, specs.Fmt.signed_decimal, specs.List.{flat_map, list_all}, specs.Str.Parse.{AllDigits, starts_with_minus}, proofs.Common.{◌≡◌, ◌==◌, ◌&&◌, ◌||◌, ◌<◌, ◌≤◌, ◌^◌, ◌∙◌, ◌∷◌, ◌++◌, [], ℕ, suc, Bool, true, false, List, Some, None, append_assoc, append-nil, arith, ap, refl, inl, inr, lit<, lit≤}, proofs.lemmas.Bool.{and_parts, cases_Bool, eqb-true, le-leb, leb-true, ltb-true, ne_eqb}, proofs.lemmas.Fmt.{decimal_is_IsNumeral, length-decimal-le}, proofs.lemmas.List.Folds.list_all-append, proofs.lemmas.Str.Parse.digit_at, proofs.lemmas.Grind.common_steps, proofs.lemmas.Int.ints}
use Rattle.star_interval.specs.Range.{is_i64}
use Rattle.star_schema.specs.{Records.is_filled, Records.with_first, Schema.column_name, Schema.column_of as schema_column, Schema.table_name, Words.aggregate_name, Words.direction_name, Words.shape_name, declared.column.ColumnId.ColumnId, declared.column.ColumnId.TheVariants.DDatekey}
use Rattle.star_schema.{specs.declared.table.TableId.TableId, specs.declared.table.TableId.TheVariants.Date, specs.declared.group.Aggregate.Aggregate, specs.declared.group.Direction.Direction, specs.declared.group.Shape.Shape, proofs.NamesApart.{column_by_name, table_by_name}}
use Rattle.star_common.specs.{Printable.is_printable, Numerals.numeral_of, Quotes.doubled, Quotes.quoted}
use Rattle.star_program.{specs.Text.Keywords.{aggregate_of_word, column_of_word, direction_of, keyword_name, keyword_of, mnemonic_name, mnemonic_of, same, shape_of_word, table_of_word}, specs.Text.Numerals.{constant_of, count_of, is_show_name, is_name_byte, register_of}, specs.Text.Lines.{pieces_of, words_of}, specs.Text.Said.{quoted_text_of, unquoted}, specs.Text.Spellable.{IsPrinted, HasFourDigits}, specs.declared.spelling.keyword.Mnemonic.Mnemonic, proofs.Text.WordLemmas.{filtered_first, no_pieces, piece_ends, piece_on, piece_quoted, words_are, filled_whole}, proofs.Text.Quotes.{plain_byte, two_quotes}}

-- ---- words

-- printable, no space and no quote
abbrev pub is_word_byte : ℕ → Bool
is_word_byte b = nat_le 33 b && nat_le b 126 && not (b == 39)

abbrev pub is_word : List ℕ → Bool
is_word w = is_filled w && list_all is_word_byte w

-- words, each after a space
abbrev pub behind : List (List ℕ) → List ℕ
behind ws = flat_map (λ w. 32 ∷ w) ws

word_byte_plain : (b : ℕ) → is_word_byte b ≡ true → ((b == 32) || (b == 39)) ≡ false
word_byte_plain b h = grind (arith, and_parts, leb-true, ne_eqb)

word_byte_printable : (b : ℕ) → is_word_byte b ≡ true → is_printable b ≡ true
word_byte_printable b h = grind (arith, and_parts, leb-true, le-leb)

bytes_printable : (w : List ℕ) → list_all is_word_byte w ≡ true → list_all is_printable w ≡ true
bytes_printable [] h = refl
bytes_printable (b ∷ w) h =
    let parts = and_parts (is_word_byte b) (list_all is_word_byte w) h in
    rw (word_byte_printable b parts.0) (bytes_printable w parts.1)

word_parts : (w : List ℕ) → is_word w ≡ true
    → (is_filled w ≡ true) × (list_all is_word_byte w ≡ true)
word_parts w h = and_parts (is_filled w) (list_all is_word_byte w) h

piece_cut : (w rest : List ℕ) → list_all is_word_byte w ≡ true
    → pieces_of (w ++ 32 ∷ rest) ≡ w ∷ pieces_of rest
piece_cut [] rest h = piece_ends rest
piece_cut (b ∷ w) rest h =
    grind (arith, common_steps, and_parts, list_all, piece_on, word_byte_plain, piece_cut w rest)

piece_whole : (w : List ℕ) → list_all is_word_byte w ≡ true → pieces_of w ≡ w ∷ []
piece_whole [] h = no_pieces
piece_whole (b ∷ w) h =
    let parts = and_parts (is_word_byte b) (list_all is_word_byte w) h in
    piece_on b w (word_byte_plain b parts.0) ∙ ap (with_first b) (piece_whole w parts.1)

word_cut : (w rest : List ℕ) → is_word w ≡ true → words_of (w ++ 32 ∷ rest) ≡ w ∷ words_of rest
word_cut w rest h = grind (arith, word_parts, words_are, piece_cut, filtered_first)

word_whole : (w : List ℕ) → is_word w ≡ true → words_of w ≡ w ∷ []
word_whole w h =
    let parts = word_parts w h in
    words_are w ∙ ap (filter is_filled) (piece_whole w parts.1) ∙ filtered_first w [] parts.0

pub words_behind : (w : List ℕ) (ws : List (List ℕ)) → is_word w ≡ true → list_all is_word ws ≡ true
    → words_of (w ++ behind ws) ≡ w ∷ ws
words_behind w [] h all = rw append-nil (word_whole w h)
words_behind w (v ∷ ws) h all =
    let parts = and_parts (is_word v) (list_all is_word ws) all in
    word_cut w (v ++ behind ws) h ∙ ap (λ vs. w ∷ vs) (words_behind v ws parts.0 parts.1)

quoted_words : (q : List ℕ) → words_of (39 ∷ q) ≡ (39 ∷ q) ∷ []
quoted_words q = words_are (39 ∷ q) ∙ ap (filter is_filled) (piece_quoted q)

-- the last word is a text in quotes
pub words_before_quote : (w : List ℕ) (ws : List (List ℕ)) (q : List ℕ) → is_word w ≡ true
    → list_all is_word ws ≡ true
    → words_of (w ++ (behind ws ++ 32 ∷ 39 ∷ q)) ≡ w ∷ (ws ++ (39 ∷ q) ∷ [])
words_before_quote w [] q h all = word_cut w (39 ∷ q) h ∙ ap (λ vs. w ∷ vs) (quoted_words q)
words_before_quote w (v ∷ ws) q h all =
    let parts = and_parts (is_word v) (list_all is_word ws) all in
    ap (λ t. words_of (w ++ 32 ∷ t)) (append_assoc v (behind ws) (32 ∷ 39 ∷ q))
    ∙ word_cut w (v ++ (behind ws ++ 32 ∷ 39 ∷ q)) h
    ∙ ap (λ vs. w ∷ vs) (words_before_quote v ws q parts.0 parts.1)

behind_printable : (ws : List (List ℕ)) → list_all is_word ws ≡ true
    → list_all is_printable (behind ws) ≡ true
behind_printable [] h = refl
behind_printable (w ∷ ws) h =
    let parts = and_parts (is_word w) (list_all is_word ws) h in
    rw (list_all-append is_printable w (behind ws), bytes_printable w (word_parts w parts.0).1)
    (behind_printable ws parts.1)

pub words_printable : (w : List ℕ) (ws : List (List ℕ)) → is_word w ≡ true
    → list_all is_word ws ≡ true → list_all is_printable (w ++ behind ws) ≡ true
words_printable w ws h all =
    rw (list_all-append is_printable w (behind ws), bytes_printable w (word_parts w h).1)
    (behind_printable ws all)

-- ---- numbers

digits_all : (ds : List ℕ) → AllDigits 10 ds → list_all is_ascii_digit ds ≡ true
digits_all [] h = refl
digits_all (d ∷ ds) h =
    let at = digit_at (d ∷ ds) 0 h (omega arith) in
    rw (le-leb 48 d at.0, le-leb d 57 at.1) (digits_all ds h.1)

digit_word_byte : (d : ℕ) → is_ascii_digit d ≡ true → is_word_byte d ≡ true
digit_word_byte d h = grind (arith, and_parts, leb-true, le-leb, ne_eqb)

digits_word_bytes : (ds : List ℕ) → list_all is_ascii_digit ds ≡ true
    → list_all is_word_byte ds ≡ true
digits_word_bytes [] h = refl
digits_word_bytes (d ∷ ds) h =
    let parts = and_parts (is_ascii_digit d) (list_all is_ascii_digit ds) h in
    rw (digit_word_byte d parts.0) (digits_word_bytes ds parts.1)

decimal_digits : (n : ℕ) → n < 2 ^ 64 → list_all is_ascii_digit (decimal n) ≡ true
decimal_digits n small = digits_all (decimal n) (decimal_is_IsNumeral n small).0.1

pub decimal_word : (n : ℕ) → n < 2 ^ 64 → is_word (decimal n) ≡ true
decimal_word n small = rw (
  filled_whole (decimal n) (decimal_is_IsNumeral n small).0.0,
  digits_word_bytes (decimal n) (decimal_digits n small),
) refl

numeral_decimal : (indexes n : ℕ) → 0 < indexes → n < 10 ^ indexes → n < 2 ^ 64
    → numeral_of indexes (decimal n) ≡ Some n
numeral_decimal indexes n some short small =
    grind (arith, decimal_is_IsNumeral, le-leb, length-decimal-le, decimal_digits)

short_below : (n : ℕ) → HasFourDigits n → n < 2 ^ 64
short_below n h = let big : 9999 < 2 ^ 64 = lit< tt in omega arith

pub count_decimal : (n : ℕ) → HasFourDigits n → count_of (decimal n) ≡ Some n
unfolding count_of
count_decimal n h = let big : 9999 < 10 ^ 4 = lit< tt in
    numeral_decimal 4 n (lit< tt) (omega arith) (short_below n h)

pub count_word : (n : ℕ) → HasFourDigits n → is_word (decimal n) ≡ true
count_word n h = decimal_word n (short_below n h)

-- the word of a register
abbrev pub register_word : ℕ → List ℕ
register_word r = 114 ∷ decimal r

pub register_read : (r : ℕ) → HasFourDigits r → register_of (register_word r) ≡ Some r
unfolding register_of
register_read r h = count_decimal r h

pub register_is_word : (r : ℕ) → HasFourDigits r → is_word (register_word r) ≡ true
register_is_word r h = digits_word_bytes (decimal r) (decimal_digits r (short_below r h))

-- no keyword is a register
keyword_none : (ds : List ℕ) → list_all is_ascii_digit ds ≡ true → keyword_of (114 ∷ ds) ≡ None
unfolding keyword_of keyword_name
keyword_none it h = grind (arith, leb-true, and_parts, ne_eqb)

pub register_no_keyword : (r : ℕ) → HasFourDigits r → keyword_of (register_word r) ≡ None
register_no_keyword r h = keyword_none (decimal r) (decimal_digits r (short_below r h))

first_digit : (ds : List ℕ) → list_all is_ascii_digit ds ≡ true → starts_with_minus ds ≡ false
first_digit it h = grind (arith, common_steps, leb-true, and_parts, ne_eqb)

constant_below : (n : ℕ) → n ≤ 9223372036854775808 → (n < 10 ^ 19) × (n < 2 ^ 64)
constant_below n h = grind (arith, lit<)

-- how far a number of 64 bits lies from zero
below_i64 : (n : ℕ) → nat_lt n (2 ^ 63) ≡ true → n ≤ 9223372036854775807
below_i64 n i = let below = ltb-true n (2 ^ 63) i in omega (arith, below)

pub constant_decimal : (z : ℤ) → is_i64 z ≡ true → constant_of (signed_decimal z) ≡ Some z
unfolding constant_of is_i64
constant_decimal (pos n) i =
    let h : n ≤ 9223372036854775807 = below_i64 n i in
    let top : 9223372036854775807 ≤ 9223372036854775808 = lit≤ tt in
    let small = constant_below n (omega (arith, top, h)) in
    let plain : starts_with_minus (decimal n) ≡ false =
    first_digit (decimal n) (decimal_digits n small.1) in
    let number : numeral_of 19 (decimal n) ≡ Some n =
    numeral_decimal 19 n (lit< tt) small.0 small.1 in
    let fits : nat_le n 9223372036854775807 ≡ true = le-leb n 9223372036854775807 h in
    rw (plain, number, fits) refl
constant_decimal (negsuc n) i =
    grind (arith, ints, below_i64, constant_below, numeral_decimal, lit<, le-leb)

pub constant_word : (z : ℤ) → is_i64 z ≡ true → is_word (signed_decimal z) ≡ true
unfolding is_i64
constant_word (pos n) i = let h : n ≤ 9223372036854775807 = below_i64 n i in
    let top : 9223372036854775807 ≤ 9223372036854775808 = lit≤ tt in
    decimal_word n (constant_below n (omega (arith, top, h))).1
constant_word (negsuc n) i =
    let h : n ≤ 9223372036854775807 = below_i64 n i in
    let within : suc n ≤ 9223372036854775808 = omega (arith, h) in
    digits_word_bytes (decimal (suc n)) (decimal_digits (suc n) (constant_below (suc n) within).1)

-- ---- fixed words

pub column_read : (c : ColumnId) → column_of_word (column_name c) ≡ Some c
unfolding column_of_word
column_read c = column_by_name c

pub column_word : (c : ColumnId) → is_word (column_name c) ≡ true
unfolding schema_column
column_word DDatekey = refl
column_word _ = refl

-- no column has a fixed word's name
pub column_apart : (c : ColumnId) (word : List ℕ) → column_of_word word ≡ None
    → same (column_name c) word ≡ false
column_apart c word none = elim (cases_Bool (same (column_name c) word)) [
  | inl is ↦ let found : column_of_word word ≡ Some c =
      rw (same_word (column_name c) word is) at (column_read c) in let bad : ⊥ = cc in absurd bad
  | inr other ↦ other
]
  where
    same_word : (a b : List ℕ) → same a b ≡ true → a ≡ b
    same_word a b h = (bytes_decides a b).0 h

pub table_read : (t : TableId) → table_of_word (table_name t) ≡ Some t
unfolding table_of_word
table_read t = table_by_name t

pub table_word : (t : TableId) → is_word (table_name t) ≡ true
unfolding table_name
table_word Date = refl
table_word _ = refl

pub mnemonic_read : (m : Mnemonic) → mnemonic_of (mnemonic_name m) ≡ Some m
unfolding mnemonic_of mnemonic_name
mnemonic_read it = grind arith

pub mnemonic_word : (m : Mnemonic) → is_word (mnemonic_name m) ≡ true
unfolding mnemonic_name
mnemonic_word it = grind arith

pub shape_read : (s : Shape) → shape_of_word (shape_name s) ≡ Some s
unfolding shape_of_word shape_name
shape_read it = grind arith

pub shape_word : (s : Shape) → is_word (shape_name s) ≡ true
unfolding shape_name
shape_word it = grind arith

pub aggregate_read : (a : Aggregate) → aggregate_of_word (aggregate_name a) ≡ Some a
unfolding aggregate_of_word aggregate_name
aggregate_read it = grind arith

pub aggregate_word : (a : Aggregate) → is_word (aggregate_name a) ≡ true
unfolding aggregate_name
aggregate_word it = grind arith

pub direction_read : (d : Direction) → direction_of (direction_name d) ≡ Some d
unfolding direction_of direction_name
direction_read it = grind arith

pub direction_word : (d : Direction) → is_word (direction_name d) ≡ true
unfolding direction_name
direction_word it = grind arith

-- ---- names

name_byte : (b : ℕ) → is_name_byte b ≡ true → is_word_byte b ≡ true
name_byte b h = grind arith

name_bytes : (w : List ℕ) → list_all is_name_byte w ≡ true → list_all is_word_byte w ≡ true
name_bytes [] h = refl
name_bytes (b ∷ w) h =
    let parts = and_parts (is_name_byte b) (list_all is_name_byte w) h in
    rw (name_byte b parts.0) (name_bytes w parts.1)

pub name_word : (w : List ℕ) → is_show_name w ≡ true → is_word w ≡ true
unfolding is_show_name
name_word w h = grind (arith, and_parts, filled_whole, leb-true, name_bytes)

-- ---- texts in quotes

last_quote_read : unquoted (39 ∷ []) ≡ Some []
unfolding unquoted
last_quote_read = refl

doubled_read : (text : List ℕ) → unquoted (flat_map doubled text ++ 39 ∷ []) ≡ Some text
doubled_read [] = last_quote_read
doubled_read (b ∷ text) =
    grind (arith, common_steps, doubled_read text, cases_Bool, eqb-true, two_quotes, plain_byte)

pub quoted_read : (text : List ℕ) → quoted_text_of (quoted text) ≡ Some text
unfolding quoted
quoted_read text = doubled_read text

doubled_printable : (text : List ℕ) → IsPrinted text
    → list_all is_printable (flat_map doubled text ++ 39 ∷ []) ≡ true
doubled_printable [] h = refl
doubled_printable (b ∷ text) h =
    grind (arith, common_steps, and_parts, list_all, cases_Bool, doubled_printable text)

pub quoted_printable : (text : List ℕ) → IsPrinted text → list_all is_printable (quoted text) ≡ true
unfolding quoted
quoted_printable text h = doubled_printable text h

pub quote_printable : (w : List ℕ) (ws : List (List ℕ)) (q : List ℕ) → is_word w ≡ true
    → list_all is_word ws ≡ true → list_all is_printable q ≡ true
    → list_all is_printable (w ++ (behind ws ++ 32 ∷ q)) ≡ true
quote_printable w ws q h all printable =
    grind (arith, list_all-append, bytes_printable, word_parts, behind_printable)
