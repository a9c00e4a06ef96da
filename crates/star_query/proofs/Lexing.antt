-- The readers of the lexer read what begins at a position.
use Rattle.std.{proofs.Common.{None, ◌≡◌, ◌∙◌, ◌↔◌, ℕ, Bool, true, false, List, [], ◌∷◌, IsTrue, nat_eq, refl, sym, ap, subst, ◌+◌, ◌<◌, ◌≤◌, arith, length, drop, take, zero, suc, Result, Ok, Err, ◌++◌, append_assoc, append-nil, drop-drop}, specs.Prelude.{nat_lt, ◌==◌}, specs.Cmp.Lexicographic.{bytes_decides, pointwise, same_text}, specs.Char.is_ascii_digit, specs.List.{list_all, prefix_len, slice_get}, proofs.lemmas.Bool.{and_from, le-leb, lt-ltb, ltb-false, ltb-true, or_right}, proofs.lemmas.List.drop_all, proofs.lemmas.List.Sums.prefix_len-le-length, proofs.lemmas.List.Folds.length-prefix_len, proofs.lemmas.Grind.common_steps}
use Rattle.star_query.specs.{declared.token.Word.Word, declared.fault.QueryFault.TheVariants.{BadNumber, OutOfMemory, TooLong}, declared.fault.QueryFault.QueryFault, Symbols.{Symbol, Placed, spelling, lowered}, Tokens.{begins_with_letter, is_letter, is_word_byte}, Private.Lexed.{front_piece, with_tokens, begins_with_digit, IsCutFault}, Private.Cut.{Piece, is_spelled, blank, token, bad, cut_from, cut_of, put_in_front, number_piece, sign_piece}}
use Rattle.star_common.specs.{Numerals.is_numeral, Numerals.numeral_of, WhiteSpace.is_blank}

lowered-spelling : (w : Word) → lowered (spelling w) ≡ spelling w
unfolding spelling
lowered-spelling it = grind arith

-- a test of equal texts is the test by bytes
by_bytes : (b : Bool) (xs ys : List ℕ) → (IsTrue b ↔ (xs ≡ ys)) → b ≡ pointwise nat_eq xs ys
by_bytes true xs ys e = sym ((bytes_decides xs ys).1 (e.0 refl))
by_bytes false xs ys e = by_test (pointwise nat_eq xs ys) refl
  where
    by_test : (c : Bool) → pointwise nat_eq xs ys ≡ c → false ≡ pointwise nat_eq xs ys
    by_test true q = let h : false ≡ true = e.1 (same_text xs ys (sym q)) in cc
    by_test false q = sym q

pub spelled : (w : Word) (word : List ℕ) (b : Bool)
    → (IsTrue b ↔ (lowered (spelling w) ≡ lowered word)) → b ≡ is_spelled word w
spelled w word b e = by_bytes b (spelling w) (lowered word)
    (subst (λ xs. IsTrue b ↔ (xs ≡ lowered word)) (lowered-spelling w) e)

pub prefix_within : {X : Type 0} (p : X → Bool) (xs : List X) → prefix_len p xs ≤ length xs
prefix_within p xs = prefix_len-le-length p xs

pub prefix_passes : (p : ℕ → Bool) (xs : List ℕ) → list_all p (take (prefix_len p xs) xs) ≡ true
prefix_passes p [] = refl
prefix_passes p (x ∷ xs) = go (p x) refl (prefix_passes p xs)
  where
    go : (b : Bool) → p x ≡ b → list_all p (take (prefix_len p xs) xs) ≡ true
        → list_all p (take (prefix_len p (x ∷ xs)) (x ∷ xs)) ≡ true
    go true h rest = let one : 1 + prefix_len p xs ≡ suc (prefix_len p xs) = omega arith in
        rw (h, one) (and_from _ _ h rest)
    go false h rest = rw h refl

-- the cut goes on behind what lies inside a token
skipped : (offset inside : ℕ) (bytes : List ℕ)
    → cut_from offset inside bytes ≡ cut_from (offset + inside) 0 (drop inside bytes)
unfolding cut_from
skipped offset zero bytes =
    ap (λ p. cut_from p 0 bytes) (let e : offset ≡ offset + 0 = omega arith in e)
skipped offset (suc n) [] = refl
skipped offset (suc n) (b ∷ bs) =
    skipped (offset + 1) n bs
    ∙ ap (λ p. cut_from p 0 (drop n bs))
    (let e : offset + 1 + n ≡ offset + suc n = omega arith in e)

pub cut_token : (offset : ℕ) (bytes : List ℕ) (x : Symbol) (width : ℕ)
    → front_piece offset bytes ≡ token x width → 1 ≤ width
    → cut_from offset 0 bytes
    ≡ put_in_front (record { symbol = x; offset = offset })
    (cut_from (offset + width) 0 (drop width bytes))
unfolding cut_from
cut_token offset it x width e some = grind (arith, common_steps, skipped)

pub cut_blank : (offset : ℕ) (bytes : List ℕ) → front_piece offset bytes ≡ blank
    → cut_from offset 0 bytes ≡ cut_from (offset + 1) 0 (drop 1 bytes)
unfolding cut_from
cut_blank offset [] e = refl
cut_blank offset (b ∷ bs) e = rw e refl

pub cut_bad : (offset : ℕ) (bytes : List ℕ) (fault : QueryFault)
    → front_piece offset bytes ≡ bad fault → cut_from offset 0 bytes ≡ Err fault
unfolding cut_from
cut_bad offset [] fault e = cc
cut_bad offset (b ∷ bs) fault e = rw e refl

-- one more token
pub with_one_more : (so_far : List Placed) (t : Placed) (rest : Result (List Placed) QueryFault)
    → with_tokens so_far (put_in_front t rest) ≡ with_tokens (so_far ++ t ∷ []) rest
with_one_more so_far t (Ok ts) = ap Ok (sym (append_assoc so_far (t ∷ []) ts))
with_one_more so_far t (Err e) = refl

pub one_more_token : (bytes : List ℕ) (offset : ℕ) (so_far : List Placed) (x : Symbol) (width : ℕ)
    → cut_of bytes ≡ with_tokens so_far (cut_from offset 0 (drop offset bytes))
    → front_piece offset (drop offset bytes) ≡ token x width → 1 ≤ width
    → cut_of bytes ≡ with_tokens (so_far ++ record { symbol = x; offset = offset } ∷ [])
    (cut_from (offset + width) 0 (drop (offset + width) bytes))
one_more_token bytes offset so_far x width before front some =
    before ∙ ap (with_tokens so_far) (cut_token offset (drop offset bytes) x width front some)
    ∙ with_one_more so_far _ _
    ∙ ap (λ rest. with_tokens (so_far ++ record { symbol = x; offset = offset } ∷ [])
    (cut_from (offset + width) 0 rest)) (drop-drop width offset bytes)

pub one_more_blank : (bytes : List ℕ) (offset : ℕ) (so_far : List Placed)
    → cut_of bytes ≡ with_tokens so_far (cut_from offset 0 (drop offset bytes))
    → front_piece offset (drop offset bytes) ≡ blank
    → cut_of bytes ≡ with_tokens so_far (cut_from (offset + 1) 0 (drop (offset + 1) bytes))
one_more_blank bytes offset so_far before front =
    before ∙ ap (with_tokens so_far) (cut_blank offset (drop offset bytes) front)
    ∙ ap (λ rest. with_tokens so_far (cut_from (offset + 1) 0 rest)) (drop-drop 1 offset bytes)

pub first_bad : (bytes : List ℕ) (offset : ℕ) (so_far : List Placed) (fault : QueryFault)
    → cut_of bytes ≡ with_tokens so_far (cut_from offset 0 (drop offset bytes))
    → front_piece offset (drop offset bytes) ≡ bad fault → cut_of bytes ≡ Err fault
first_bad bytes offset so_far fault before front =
    before ∙ ap (with_tokens so_far) (cut_bad offset (drop offset bytes) fault front)

pub all_cut : (bytes : List ℕ) (offset : ℕ) (so_far : List Placed)
    → cut_of bytes ≡ with_tokens so_far (cut_from offset 0 (drop offset bytes))
    → length bytes ≤ offset → cut_of bytes ≡ Ok so_far
unfolding cut_from
all_cut bytes offset so_far before whole =
    before ∙ rw (drop_all offset bytes whole) (ap Ok (append-nil so_far))

pub word_some : (bytes : List ℕ) → begins_with_letter bytes ≡ true
    → 1 ≤ prefix_len is_word_byte bytes
word_some [] e = cc
word_some (b ∷ bs) e = rw e (omega arith)

pub number_some : (bytes : List ℕ) → begins_with_digit bytes ≡ true
    → 1 ≤ prefix_len is_ascii_digit bytes
number_some [] e = cc
number_some (b ∷ bs) e = rw e (omega arith)

-- ---- numbers

-- the digits at the front, at most `offsets`, are a numeral of these positions
pub numeral_front : (offsets : ℕ) (bytes : List ℕ) → 1 ≤ prefix_len is_ascii_digit bytes
    → prefix_len is_ascii_digit bytes ≤ offsets
    → is_numeral offsets (take (prefix_len is_ascii_digit bytes) bytes) ≡ true
numeral_front offsets bytes some few =
    grind (arith, length-prefix_len, and_from, le-leb, prefix_passes)

pub number_long : (offset : ℕ) (bytes : List ℕ) → 18 < prefix_len is_ascii_digit bytes
    → number_piece offset bytes ≡ bad (BadNumber offset)
number_long offset bytes long = rw (lt-ltb 18 (prefix_len is_ascii_digit bytes) long) refl

pub number_followed : (offset : ℕ) (bytes : List ℕ)
    → begins_with_letter (drop (prefix_len is_ascii_digit bytes) bytes) ≡ true
    → number_piece offset bytes ≡ bad (BadNumber offset)
number_followed offset bytes letter =
    rw (or_right (nat_lt 18 (prefix_len is_ascii_digit bytes)) _ letter) refl

-- too many digits for any number
pub number_too_long : (offset : ℕ) (bytes : List ℕ) → begins_with_digit bytes ≡ true
    → numeral_of 19 (take (prefix_len is_ascii_digit bytes) bytes) ≡ None
    → number_piece offset bytes ≡ bad (BadNumber offset)
number_too_long offset bytes begins none =
    grind (arith, common_steps, number_long, ltb-true, ltb-false, numeral_front, number_some)

-- what begins with a byte that is none of the others begins with a sign
pub sign_at : (offset b : ℕ) (bs text : List ℕ) (found : Piece)
    → found ≡ sign_piece offset b (slice_get bs 0) → text ≡ b ∷ bs
    → is_blank b ≡ false → is_letter b ≡ false → is_ascii_digit b ≡ false → (b == 39) ≡ false
    → found ≡ front_piece offset text
sign_at offset b bs text found is cut no_blank no_letter no_digit no_quote =
    rw (cut, no_blank, no_letter, no_digit, no_quote) is

pub fault_of_cut : (bytes : List ℕ) (fault : QueryFault) → cut_of bytes ≡ Err fault
    → IsCutFault bytes fault
fault_of_cut bytes it e = grind arith
