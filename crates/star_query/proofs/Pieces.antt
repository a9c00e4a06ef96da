-- What the lexer finds at a position is white space, a token as it is written, or what stops the
-- cut.
use Rattle.std.{proofs.Common.{◌≡◌, ◌∙◌, refl, sym, ap, subst, ℕ, zero, suc, ◌+◌, ◌<◌, ◌≤◌, inl, inr, Bool, true, false, List, [], ◌∷◌, ◌++◌, length, take, drop, arith, Option, Some, None, append_assoc}, specs.List.{AllByRecursion, flat_map, prefix_len, slice_get}, specs.Char.is_ascii_digit, specs.Str.Parse.digits_value, proofs.lemmas.Bool.{and_from, eq-eqb, eqb-true, ltb-true, ltb-false, or_from, or_left, or_parts}, proofs.lemmas.List.take-append-drop, proofs.lemmas.List.Folds.length-prefix_len}
use Rattle.std.specs.Prelude.{codes, ◌==◌, ◌||◌, not as negated, nat_lt, Contains, if◌then◌else◌, slice_index_or}
use Rattle.star_common.specs.{Quotes.doubled, Quotes.quoted, WhiteSpace.is_blank}
use Rattle.star_query.{specs.declared.token.Word.Word, specs.declared.fault.QueryFault.TheVariants.BadNumber, specs.Symbols.{Symbol, relation, sign, additive, number, text}, specs.Private.Cut.{Piece, blank, token, bad, reserved, word_of, word_piece, number_piece, text_piece, sign_piece, piece_at}, specs.Tokens.{is_letter, is_word_byte, begins_with_letter, is_word, signs, IsToken, a_word, a_name, a_number, a_text, a_sign, continues, is_whole, Stops, bad_number, open_text, bad_byte, stray}, proofs.Counting.by_bool, proofs.Reserved.spelled_alone, proofs.Lexing.{number_some, numeral_front, prefix_passes}, proofs.Quotes.{Written, closed, stopped, open_ended, read_closed, read_open, read_stopped, written}}
use Rattle.star_query.specs.declared.token.Relation.TheVariants as r
use Rattle.star_query.specs.declared.token.Sign.TheVariants as s
use Rattle.star_query.specs.declared.token.Additive.TheVariants as q

-- ---- what begins at a position

abbrev pub Found : (offset : ℕ) → List ℕ → Piece → Type 0
Found offset bytes blank = (b : ℕ) × (bs : List ℕ) × (bytes ≡ b ∷ bs) × (is_blank b ≡ true)
Found offset bytes (token x width) =
    (word : List ℕ) × (rest : List ℕ) × (bytes ≡ word ++ rest) × (length word ≡ width)
    × IsToken offset word x × (is_whole x rest ≡ true)
Found offset bytes (bad e) = Stops offset bytes e

either_way : (offset : ℕ) (bytes : List ℕ) (c : Bool) (x y : Piece)
    → (c ≡ true → Found offset bytes x) → (c ≡ false → Found offset bytes y)
    → Found offset bytes (if c then x else y)
either_way offset bytes true x y f g = f refl
either_way offset bytes false x y f g = g refl

-- ---- runs of bytes

-- none of these bytes passes from the front on
unfoldable pub ends : (ℕ → Bool) → List ℕ → Bool
ends p [] = true
ends p (b ∷ bs) = negated (p b)

run_ends : (p : ℕ → Bool) (bytes : List ℕ) → ends p (drop (prefix_len p bytes) bytes) ≡ true
unfolding ends
run_ends p [] = refl
run_ends p (b ∷ bs) =
    by_bool (p b)
    (λ yes'. let one : 1 + prefix_len p bs ≡ suc (prefix_len p bs) = omega arith in
    rw (yes', one) (run_ends p bs))
    (λ no'. rw no' (rw no' refl))

over_from : (x : Symbol) (p : ℕ → Bool) (rest : List ℕ) → ((b : ℕ) → continues x b ≡ p b)
    → ends p rest ≡ true → is_whole x rest ≡ true
unfolding ends
over_from x p [] same over = refl
over_from x p (b ∷ bs) same over = rw (same b) over

-- ---- words

pub word_goes_on : (offset : ℕ) (word : List ℕ) (b : ℕ)
    → continues (word_of offset word) b ≡ is_word_byte b
word_goes_on offset word b = grind arith

-- a word is a reserved word or a name
word_token : (offset : ℕ) (word : List ℕ) → is_word word ≡ true
    → IsToken offset word (word_of offset word)
word_token offset word is = go (reserved word) refl
  where
    go : (o : Option Word) → reserved word ≡ o → IsToken offset word (word_of offset word)
    go None h = rw h (a_name is (λ w e. let found = (spelled_alone w word).1 e in cc) refl)
    go (Some w) h = rw h (a_word is w ((spelled_alone w word).0 h) refl)

front_begins : (p : ℕ → Bool) (b : ℕ) (bs : List ℕ) → p b ≡ true → (is_letter b ≡ true)
    → begins_with_letter (take (prefix_len p (b ∷ bs)) (b ∷ bs)) ≡ true
front_begins p b bs e letter = let one : 1 + prefix_len p bs ≡ suc (prefix_len p bs) =
    omega arith in rw (e, one) letter

word_found : (offset b : ℕ) (bs : List ℕ) → is_letter b ≡ true
    → Found offset (b ∷ bs) (word_piece offset (b ∷ bs))
word_found offset b bs letter =
    let bytes = b ∷ bs in
    let byte : is_word_byte b ≡ true = or_left (is_letter b) (is_ascii_digit b) letter in
    let width = prefix_len is_word_byte bytes in (
      take width bytes,
      drop width bytes,
      sym (take-append-drop width bytes),
      length-prefix_len is_word_byte bytes,
      word_token offset (take width bytes)
          (and_from _ _ (front_begins is_word_byte b bs byte letter)
          (prefix_passes is_word_byte bytes)),
      over_from (word_of offset (take width bytes)) is_word_byte (drop width bytes)
          (word_goes_on offset (take width bytes)) (run_ends is_word_byte bytes),
    )

-- ---- numbers

-- neither a letter nor a digit follows
no_more_of_it : (n : ℕ) (rest : List ℕ) → ends is_ascii_digit rest ≡ true
    → begins_with_letter rest ≡ false → is_whole (number n) rest ≡ true
unfolding ends
no_more_of_it n it digits letter = grind (arith, by_bool)

number_found : (offset b : ℕ) (bs : List ℕ) → is_ascii_digit b ≡ true
    → Found offset (b ∷ bs) (number_piece offset (b ∷ bs))
number_found offset b bs digit =
    let bytes = b ∷ bs in
    let width = prefix_len is_ascii_digit bytes in
    let digits = take width bytes in
    let rest = drop width bytes in
    let some : 1 ≤ width = number_some bytes digit in
    let many : length digits ≡ width = length-prefix_len is_ascii_digit bytes in
    either_way offset bytes (nat_lt 18 width || begins_with_letter rest)
    (bad (BadNumber offset)) (token (number (digits_value 10 digits)) width)
    (λ wrong. subst (λ all. Stops offset all (BadNumber offset)) (take-append-drop width bytes)
    (bad_number digits rest (omega (arith, many, some)) (prefix_passes is_ascii_digit bytes)
    (by_bool (nat_lt 18 width)
    (λ long. inl (let h : 18 < width = ltb-true 18 width long in omega (arith, many, h)))
    (λ short. inr (rw short at wrong)))))
    (λ right. let both = or_parts (nat_lt 18 width) (begins_with_letter rest) right in (
      digits,
      rest,
      sym (take-append-drop width bytes),
      many,
      a_number (digits_value 10 digits)
          (rw (numeral_front 18 bytes some (ltb-false 18 width both.0)) refl) refl,
      no_more_of_it (digits_value 10 digits) rest (run_ends is_ascii_digit bytes) both.1,
    ))

-- ---- texts

pub over_text : (s t rest : List ℕ) → is_whole (text s) rest ≡ is_whole (text t) rest
over_text s t [] = refl
over_text s t (b ∷ bs) = refl

pub quoted_front : (t rest : List ℕ) → quoted t ++ rest ≡ 39 ∷ (flat_map doubled t ++ 39 ∷ rest)
unfolding quoted
quoted_front t rest = ap (λ xs. 39 ∷ xs) (append_assoc (flat_map doubled t) (39 ∷ []) rest)

text_found : (offset : ℕ) (bytes : List ℕ) → Written bytes
    → Found offset (39 ∷ bytes) (text_piece offset bytes)
text_found offset _ (closed t rest printed over) =
    subst (Found offset (39 ∷ (flat_map doubled t ++ 39 ∷ rest)))
    (sym (read_closed offset t rest printed over)) (
      quoted t,
      rest,
      sym (quoted_front t rest),
      refl,
      a_text t printed refl refl,
      over_text t [] rest ∙ over,
    )
text_found offset _ (stopped t rest b printed wrong) =
    subst (Found offset (39 ∷ (flat_map doubled t ++ b ∷ rest)))
    (sym (read_stopped offset t rest b printed wrong)) (bad_byte t rest b printed wrong)
text_found offset _ (open_ended t printed) =
    subst (Found offset (39 ∷ flat_map doubled t)) (sym (read_open offset t printed))
    (open_text t printed)

-- ---- signs

-- what holds of all holds of the one at a position
at_position : {X : Type 0} (P : X → Type 0) (xs : List X) (k : ℕ) (d : X) → AllByRecursion P xs
    → k < length xs → P (slice_index_or xs k d)
at_position P [] k d all below = absurd (omega arith)
at_position P (x ∷ xs) zero d all below = all.0
at_position P (x ∷ xs) (suc k) d all below = at_position P xs k d all.1 (omega arith)

-- in the order of the table
pub each_sign : (P : List ℕ × Symbol → Type 0) (word : List ℕ) (x : Symbol)
    → P (codes "<=", relation r.AtMost) → P (codes "<>", relation r.Unequal)
    → P (codes ">=", relation r.AtLeast) → P (codes "<", relation r.Less)
    → P (codes ">", relation r.Greater) → P (codes "=", relation r.Equal)
    → P (codes ",", sign s.Comma) → P (codes "(", sign s.Open) → P (codes ")", sign s.Close)
    → P (codes "*", sign s.Star) → P (codes ";", sign s.Semicolon)
    → P (codes "+", additive q.Plus) → P (codes "-", additive q.Minus)
    → Contains signs (word, x) → P (word, x)
each_sign P word x a b c d e f g h i j k l m (n, below, is) = grind (arith, at_position)

-- a byte that signs begin with
sign_first : (offset b n : ℕ) (bs : List ℕ) → (b == n) ≡ true
    → Found offset (n ∷ bs) (sign_piece offset n (slice_get bs 0))
    → Found offset (b ∷ bs) (sign_piece offset b (slice_get bs 0))
sign_first offset b n bs is found = grind (arith, eqb-true)

nothing_over : (x : Symbol) (rest : List ℕ) → ((b : ℕ) → continues x b ≡ false)
    → is_whole x rest ≡ true
nothing_over x [] none = refl
nothing_over x (b ∷ bs) none = rw (none b) refl

a_sign_of : (offset : ℕ) (word rest : List ℕ) (x : Symbol) → Contains signs (word, x)
    → is_whole x rest ≡ true → Found offset (word ++ rest) (token x (length word))
a_sign_of offset word rest x there over = (word, rest, refl, refl, a_sign there, over)

lone : (offset n k : ℕ) (bs : List ℕ) (x : Symbol) → Contains signs (n ∷ [], x)
    → ((b : ℕ) → continues x b ≡ false) → Found offset (n ∷ bs) (token x 1)
lone offset n k bs x there none = a_sign_of offset (n ∷ []) bs x there (nothing_over x bs none)

less_found : (offset : ℕ) (bs : List ℕ)
    → Found offset (60 ∷ bs) (sign_piece offset 60 (slice_get bs 0))
less_found offset [] = a_sign_of offset (60 ∷ []) [] _ (3, omega arith, refl) refl
less_found offset (c ∷ cs) =
    by_bool (c == 61)
    (λ e. subst (λ d. Found offset (60 ∷ d ∷ cs) (sign_piece offset 60 (Some d)))
    (sym (eqb-true c 61 e))
    (a_sign_of offset (60 ∷ 61 ∷ []) cs _ (0, omega arith, refl)
    (nothing_over (relation r.AtMost) cs (λ b. refl))))
    (λ e. by_bool (c == 62)
    (λ f. subst (λ d. Found offset (60 ∷ d ∷ cs) (sign_piece offset 60 (Some d)))
    (sym (eqb-true c 62 f))
    (a_sign_of offset (60 ∷ 62 ∷ []) cs _ (1, omega arith, refl)
    (nothing_over (relation r.Unequal) cs (λ b. refl))))
    (λ f. rw (e, f) (a_sign_of offset (60 ∷ []) (c ∷ cs) _ (3, omega arith, refl)
    (rw (e, f) refl))))

greater_found : (offset : ℕ) (bs : List ℕ)
    → Found offset (62 ∷ bs) (sign_piece offset 62 (slice_get bs 0))
greater_found offset [] = a_sign_of offset (62 ∷ []) [] _ (4, omega arith, refl) refl
greater_found offset (c ∷ cs) =
    by_bool (c == 61)
    (λ e. subst (λ d. Found offset (62 ∷ d ∷ cs) (sign_piece offset 62 (Some d)))
    (sym (eqb-true c 61 e))
    (a_sign_of offset (62 ∷ 61 ∷ []) cs _ (2, omega arith, refl)
    (nothing_over (relation r.AtLeast) cs (λ b. refl))))
    (λ e. rw e (a_sign_of offset (62 ∷ []) (c ∷ cs) _ (4, omega arith, refl) (rw e refl)))

-- no sign begins with a byte that none begins with
other_first : (b n : ℕ) (bs : List ℕ) (more rest : List ℕ) → (b == n) ≡ false
    → b ∷ bs ≡ (n ∷ more) ++ rest → ⊥
other_first b n bs more rest apart e =
    let same : b ≡ n = cc in absurd (let wrong = rw (eq-eqb b n same) at apart in cc)

sign_found : (offset b : ℕ) (bs : List ℕ) → is_blank b ≡ false → is_word_byte b ≡ false
    → (b == 39) ≡ false → Found offset (b ∷ bs) (sign_piece offset b (slice_get bs 0))
sign_found offset b bs no_blank no_word no_quote =
    by_bool (b == 44) (λ e. sign_first offset b 44 bs e
    (lone offset 44 6 bs (sign _) (6, omega arith, refl) (λ c. refl))) (λ e44.
    by_bool (b == 40) (λ e. sign_first offset b 40 bs e
    (lone offset 40 7 bs (sign _) (7, omega arith, refl) (λ c. refl))) (λ e40.
    by_bool (b == 41) (λ e. sign_first offset b 41 bs e
    (lone offset 41 8 bs (sign _) (8, omega arith, refl) (λ c. refl))) (λ e41.
    by_bool (b == 42) (λ e. sign_first offset b 42 bs e
    (lone offset 42 9 bs (sign _) (9, omega arith, refl) (λ c. refl))) (λ e42.
    by_bool (b == 43) (λ e. sign_first offset b 43 bs e
    (lone offset 43 11 bs (additive _) (11, omega arith, refl) (λ c. refl))) (λ e43.
    by_bool (b == 45) (λ e. sign_first offset b 45 bs e
    (lone offset 45 12 bs (additive _) (12, omega arith, refl) (λ c. refl))) (λ e45.
    by_bool (b == 59) (λ e. sign_first offset b 59 bs e
    (lone offset 59 10 bs (sign _) (10, omega arith, refl) (λ c. refl))) (λ e59.
    by_bool (b == 61) (λ e. sign_first offset b 61 bs e
    (lone offset 61 5 bs (relation _) (5, omega arith, refl) (λ c. refl))) (λ e61.
    by_bool (b == 60) (λ e. sign_first offset b 60 bs e (less_found offset bs)) (λ e60.
    by_bool (b == 62) (λ e. sign_first offset b 62 bs e (greater_found offset bs)) (λ e62.
    rw (e44, e40, e41, e42, e43, e45, e59, e61, e60, e62)
    (stray b bs no_blank no_word no_quote (λ word x rest there.
    each_sign (λ (w, y). (rest : List ℕ) → b ∷ bs ≡ w ++ rest → ⊥) word x
    (λ rest. other_first b 60 bs (61 ∷ []) rest e60)
    (λ rest. other_first b 60 bs (62 ∷ []) rest e60)
    (λ rest. other_first b 62 bs (61 ∷ []) rest e62)
    (λ rest. other_first b 60 bs [] rest e60) (λ rest. other_first b 62 bs [] rest e62)
    (λ rest. other_first b 61 bs [] rest e61) (λ rest. other_first b 44 bs [] rest e44)
    (λ rest. other_first b 40 bs [] rest e40) (λ rest. other_first b 41 bs [] rest e41)
    (λ rest. other_first b 42 bs [] rest e42) (λ rest. other_first b 59 bs [] rest e59)
    (λ rest. other_first b 43 bs [] rest e43) (λ rest. other_first b 45 bs [] rest e45)
    there rest))))))))))))

-- ---- any of them

pub piece_found : (offset b : ℕ) (bs : List ℕ) → Found offset (b ∷ bs) (piece_at offset b bs)
piece_found offset b bs =
    either_way offset (b ∷ bs) (is_blank b) blank _ (λ e. (b, bs, refl, e)) (λ no_blank.
    either_way offset (b ∷ bs) (is_letter b) (word_piece offset (b ∷ bs)) _
    (λ e. word_found offset b bs e) (λ no_letter.
    either_way offset (b ∷ bs) (is_ascii_digit b) (number_piece offset (b ∷ bs)) _
    (λ e. number_found offset b bs e) (λ no_digit.
    either_way offset (b ∷ bs) (b == 39) (text_piece offset bs)
    (sign_piece offset b (slice_get bs 0))
    (λ e. subst (λ c. Found offset (c ∷ bs) (text_piece offset bs)) (sym (eqb-true b 39 e))
    (text_found offset bs (written bs)))
    (λ no_quote. sign_found offset b bs no_blank
    (or_from (is_letter b) (is_ascii_digit b) no_letter no_digit) no_quote))))
