-- The cut of a text by the function is its tokens, up to what stops it.
use Rattle.std.{proofs.Common.{◌≡◌, ◌∙◌, ◌↔◌, refl, sym, ap, subst, ℕ, zero, suc, ◌+◌, ◌<◌, ◌≤◌, ◌⊎◌, Bool, true, false, List, [], ◌∷◌, ◌++◌, length, take, drop, arith, Option, Some, None, Result, Ok, Err, length-append, append-nil}, proofs.lemmas.Bool.{and_parts, eqb-true, leb-true, ltb-true, or_from, or_parts}, proofs.Math.Seq.{take-append_seam, drop-append_seam}, proofs.lemmas.Grind.common_steps, specs.Prelude.{◌≢◌, ◌==◌, ◌||◌, nat_lt, Contains, if◌then◌else◌}, specs.Char.is_ascii_digit, specs.Str.Parse.digits_value, specs.List.{list_all, prefix_len}}
use Rattle.star_common.{proofs.NumeralLemmas.digit_bounds, specs.Numerals.numeral_of, specs.Quotes.quoted, specs.Printable.is_printable, specs.WhiteSpace.is_blank}
use Rattle.star_query.{specs.Symbols.{Symbol, Placed, relation, name, number, text, spelling, lowered}, specs.Private.Cut.{Piece, blank, token, bad, put_in_front, reserved, word_of, word_piece, number_piece, piece_at, cut_from, cut_of}, specs.Tokens.{is_letter, is_word_byte, begins_with_letter, is_word, signs, IsToken, a_word, a_name, a_number, a_text, a_sign, continues, is_whole, AreTokens, no_more, white_space, a_token, Stops, bad_number, open_text, bad_byte, stray, IsStopped}, specs.declared.token.Word.Word, specs.declared.fault.QueryFault.QueryFault, specs.declared.fault.QueryFault.TheVariants.BadNumber, specs.Maxima.most_digits, specs.Private.Lexed.{front_piece, with_tokens}, proofs.Lexing.{cut_bad, cut_blank, cut_token, number_followed, number_long}, proofs.Pieces.{Found, each_sign, ends, over_text, piece_found, quoted_front, word_goes_on}, proofs.Counting.by_bool, proofs.Reserved.spelled_alone, proofs.Quotes.{read_closed, read_open, read_stopped}}
use Rattle.star_query.specs.declared.token.Relation.TheVariants as r

-- ---- runs of bytes

-- a run that these bytes end has all of what passes
run_is : (p : ℕ → Bool) (run rest : List ℕ) → list_all p run ≡ true → ends p rest ≡ true
    → prefix_len p (run ++ rest) ≡ length run
unfolding ends
run_is p [] [] all over = refl
run_is p [] (b ∷ bs) all over =
    by_bool (p b) (λ yes'. absurd (let wrong = rw yes' at over in cc)) (λ no'. rw no' refl)
run_is p (b ∷ run) rest all over =
    let both = and_parts (p b) (list_all p run) all in
    rw (both.0, run_is p run rest both.1 over) (omega arith)

-- at least as long as what passes in front
run_within : (p : ℕ → Bool) (run rest : List ℕ) → list_all p run ≡ true
    → length run ≤ prefix_len p (run ++ rest)
run_within p [] rest all = omega arith
run_within p (b ∷ run) rest all =
    let both = and_parts (p b) (list_all p run) all in
    rw both.0 (omega (arith, run_within p run rest both.1))

over_to : (x : Symbol) (p : ℕ → Bool) (rest : List ℕ) → ((b : ℕ) → continues x b ≡ p b)
    → is_whole x rest ≡ true → ends p rest ≡ true
unfolding ends
over_to x p [] same over = refl
over_to x p (b ∷ bs) same over = rw (← same b) over

-- ---- what is written so begins at a position

name_of : (offset : ℕ) (word : List ℕ) → ((w : Word) → lowered word ≢ spelling w)
    → word_of offset word ≡ name (lowered word) offset
name_of offset word none = go (reserved word) refl
  where
    go : (o : Option Word) → reserved word ≡ o → word_of offset word ≡ name (lowered word) offset
    go None h = rw h refl
    go (Some w) h = absurd (none w ((spelled_alone w word).0 h))

if_then : {X : Type 0} (c : Bool) (x y : X) → c ≡ true → (if c then x else y) ≡ x
if_then true x y e = refl
if_then false x y e = cc

if_else : {X : Type 0} (c : Bool) (x y : X) → c ≡ false → (if c then x else y) ≡ y
if_else true x y e = cc
if_else false x y e = refl

-- a byte that passes what no white space passes
clash : (b n : ℕ) (p : ℕ → Bool) → (b == n) ≡ true → p b ≡ true → p n ≡ false → ⊥
clash b n p e passes fails = let h : p b ≡ false = rw (eqb-true b n e) fails in absurd (cc)

no_blank_by : (p : ℕ → Bool) (b : ℕ) → p b ≡ true → p 32 ≡ false → p 9 ≡ false → p 13 ≡ false
    → p 10 ≡ false → is_blank b ≡ false
no_blank_by p b passes e32 e9 e13 e10 = grind (arith, by_bool, clash)

digit_no_letter : (b : ℕ) → is_ascii_digit b ≡ true → is_letter b ≡ false
digit_no_letter b digit = grind (arith, digit_bounds, by_bool, leb-true, eqb-true)

-- words
word_front : (offset : ℕ) (word rest : List ℕ) → is_word word ≡ true
    → is_whole (word_of offset word) rest ≡ true
    → front_piece offset (word ++ rest) ≡ token (word_of offset word) (length word)
word_front offset [] rest is over = cc
word_front offset (b ∷ bs) rest is over =
    let (begins, all) = and_parts (is_letter b) (list_all is_word_byte (b ∷ bs)) is in
    let run : prefix_len is_word_byte ((b ∷ bs) ++ rest) ≡ length (b ∷ bs) =
    run_is is_word_byte (b ∷ bs) rest all
    (over_to (word_of offset (b ∷ bs)) is_word_byte rest (word_goes_on offset (b ∷ bs)) over) in
    let whole : word_piece offset ((b ∷ bs) ++ rest)
    ≡ token (word_of offset (b ∷ bs)) (length (b ∷ bs)) =
    ap (λ n. token (word_of offset (take n ((b ∷ bs) ++ rest))) n) run
    ∙ ap (λ w. token (word_of offset w) (length (b ∷ bs))) (take-append_seam (b ∷ bs) rest) in
    if_else (is_blank b) _ _ (no_blank_by is_letter b begins refl refl refl refl)
    ∙ if_then (is_letter b) _ _ begins ∙ whole

-- numbers
digit_piece : (offset b : ℕ) (bs : List ℕ) → is_ascii_digit b ≡ true
    → front_piece offset (b ∷ bs) ≡ number_piece offset (b ∷ bs)
digit_piece offset b bs digit = grind (arith, no_blank_by, if_else, digit_no_letter, if_then)

pub numeral_parts : (offsets : ℕ) (digits : List ℕ) (n : ℕ) → numeral_of offsets digits ≡ Some n
    → (1 ≤ length digits) × (length digits ≤ offsets) × (list_all is_ascii_digit digits ≡ true)
    × (digits_value 10 digits ≡ n)
numeral_parts offsets digits n e = grind (arith, by_bool, and_parts, leb-true)

-- digits end where a number is over, and no letter follows
number_over : (n : ℕ) (rest : List ℕ) → is_whole (number n) rest ≡ true
    → (ends is_ascii_digit rest ≡ true) × (begins_with_letter rest ≡ false)
unfolding ends
number_over n it over = grind (arith, by_bool, or_parts)

abbrev number_by : ℕ → List ℕ → ℕ → Piece
number_by offset bytes width =
    if nat_lt most_digits width || begins_with_letter (drop width bytes) then bad (BadNumber offset)
    else token (number (digits_value 10 (take width bytes))) width

number_is : (offset : ℕ) (digits rest : List ℕ) (n : ℕ)
    → prefix_len is_ascii_digit (digits ++ rest) ≡ length digits → length digits ≤ 18
    → begins_with_letter rest ≡ false → digits_value 10 digits ≡ n
    → number_piece offset (digits ++ rest) ≡ token (number n) (length digits)
number_is offset digits rest n run few none value =
    grind (arith, common_steps, by_bool, ltb-true, if_else, or_from, drop-append_seam)

number_front : (offset : ℕ) (digits rest : List ℕ) (n : ℕ) → numeral_of most_digits digits ≡ Some n
    → is_whole (number n) rest ≡ true
    → front_piece offset (digits ++ rest) ≡ token (number n) (length digits)
number_front offset digits rest n e over = go digits (numeral_parts most_digits digits n e)
  where
    go : (digits : List ℕ) → (1 ≤ length digits) × (length digits ≤ most_digits)
        × (list_all is_ascii_digit digits ≡ true) × (digits_value 10 digits ≡ n)
        → front_piece offset (digits ++ rest) ≡ token (number n) (length digits)
    go [] (some, few, all, value) = absurd (omega (arith, some))
    go (b ∷ bs) (some, few, all, value) =
        let past = number_over n rest over in
        let run : prefix_len is_ascii_digit ((b ∷ bs) ++ rest) ≡ length (b ∷ bs) =
        run_is is_ascii_digit (b ∷ bs) rest all past.0 in
        let first = and_parts (is_ascii_digit b) (list_all is_ascii_digit bs) all in
        digit_piece offset b (bs ++ rest) first.0
        ∙ number_is offset (b ∷ bs) rest n run few past.1 value

-- texts
text_front : (offset : ℕ) (t rest : List ℕ) → list_all is_printable t ≡ true
    → is_whole (text t) rest ≡ true
    → front_piece offset (quoted t ++ rest) ≡ token (text t) (length (quoted t))
text_front offset t rest printed over = grind (arith, quoted_front, read_closed, over_text)

-- signs
less_front : (offset : ℕ) (rest : List ℕ) → is_whole (relation r.Less) rest ≡ true
    → front_piece offset (60 ∷ rest) ≡ token (relation r.Less) 1
less_front offset it over = grind (arith, by_bool, or_parts)

greater_front : (offset : ℕ) (rest : List ℕ) → is_whole (relation r.Greater) rest ≡ true
    → front_piece offset (62 ∷ rest) ≡ token (relation r.Greater) 1
greater_front offset it over = grind (arith, by_bool)

sign_front : (offset : ℕ) (word : List ℕ) (x : Symbol) (rest : List ℕ) → Contains signs (word, x)
    → is_whole x rest ≡ true → front_piece offset (word ++ rest) ≡ token x (length word)
sign_front offset word x rest there over = grind (arith, each_sign, less_front, greater_front)

token_front : (offset : ℕ) (word rest : List ℕ) (x : Symbol) → IsToken offset word x
    → is_whole x rest ≡ true → front_piece offset (word ++ rest) ≡ token x (length word)
token_front offset word rest x (a_word is w e same) over =
    let found : word_of offset word ≡ x = rw ((spelled_alone w word).1 e) (sym same) in
    word_front offset word rest is (subst (λ y. is_whole y rest ≡ true) (sym found) over)
    ∙ ap (λ y. token y (length word)) found
token_front offset word rest x (a_name is none same) over = grind (arith, name_of, word_front)
token_front offset word rest x (a_number n e same) over = grind (arith, number_front)
token_front offset word rest x (a_text t printed cut same) over = grind (arith, text_front)
token_front offset word rest x (a_sign there) over = sign_front offset word x rest there over

-- ---- what stops the cut

letter_no_digit : (rest : List ℕ) → begins_with_letter rest ≡ true → ends is_ascii_digit rest ≡ true
unfolding ends
letter_no_digit it e = grind (arith, by_bool, digit_no_letter)

bad_number_piece : (offset : ℕ) (digits rest : List ℕ) → list_all is_ascii_digit digits ≡ true
    → (most_digits < length digits) ⊎ (begins_with_letter rest ≡ true)
    → number_piece offset (digits ++ rest) ≡ bad (BadNumber offset)
bad_number_piece offset digits rest all it =
    grind (arith, common_steps, run_within, number_long, run_is, letter_no_digit, number_followed)

stop_front : (offset : ℕ) (bytes : List ℕ) (fault : QueryFault) → Stops offset bytes fault
    → front_piece offset bytes ≡ bad fault
stop_front offset _ _ (bad_number [] rest some all wrong) = absurd (omega (arith, some))
stop_front offset _ _ (bad_number (b ∷ bs) rest some all wrong) =
    let first = and_parts (is_ascii_digit b) (list_all is_ascii_digit bs) all in
    digit_piece offset b (bs ++ rest) first.0
    ∙ bad_number_piece offset (b ∷ bs) rest all wrong
stop_front offset _ _ (open_text said printed) = read_open offset said printed
stop_front offset _ _ (bad_byte said rest b printed wrong) =
    read_stopped offset said rest b printed wrong
stop_front offset _ _ (stray b bs no_blank no_word no_quote no_sign) =
    let none = or_parts (is_letter b) (is_ascii_digit b) no_word in
    if_else (is_blank b) _ _ no_blank ∙ if_else (is_letter b) _ _ none.0
    ∙ if_else (is_ascii_digit b) _ _ none.1 ∙ if_else (b == 39) _ _ no_quote
    ∙ rw (
      apart 44 _ (6, omega arith, refl),
      apart 40 _ (7, omega arith, refl),
      apart 41 _ (8, omega arith, refl),
      apart 42 _ (9, omega arith, refl),
      apart 43 _ (11, omega arith, refl),
      apart 45 _ (12, omega arith, refl),
      apart 59 _ (10, omega arith, refl),
      apart 61 _ (5, omega arith, refl),
      apart 60 _ (3, omega arith, refl),
      apart 62 _ (4, omega arith, refl),
    ) refl
  where
    apart : (n : ℕ) (x : Symbol) → Contains signs (n ∷ [], x) → (b == n) ≡ false
    apart n x there = by_bool (b == n)
        (λ e. absurd (no_sign (n ∷ []) x bs there (ap (λ c. c ∷ bs) (eqb-true b n e)))) (λ e. e)

-- ---- the whole cut

-- tokens that are cut from a position on, or what stops the cut there
abbrev Cut : (offset : ℕ) → List ℕ → Result (List Placed) QueryFault → Type 0
Cut offset bytes (Ok tokens) = AreTokens (offset + length bytes) [] offset bytes tokens
Cut offset bytes (Err fault) =
    (tokens : List Placed) × (end : ℕ) × (rest : List ℕ) × AreTokens end rest offset bytes tokens
    × Stops end rest fault

behind_blank : (offset b : ℕ) (bs : List ℕ) (o : Result (List Placed) QueryFault)
    → is_blank b ≡ true → Cut (offset + 1) bs o → Cut offset (b ∷ bs) o
behind_blank offset b bs (Ok tokens) e are =
    let same : offset + 1 + length bs ≡ offset + length (b ∷ bs) = omega arith in
    white_space offset b bs tokens e
    (subst (λ end. AreTokens end [] (offset + 1) bs tokens) same are)
behind_blank offset b bs (Err fault) e (tokens, end, rest, are, stops) =
    (tokens, end, rest, white_space offset b bs tokens e are, stops)

behind_token : (offset : ℕ) (word bytes : List ℕ) (x : Symbol) (o : Result (List Placed) QueryFault)
    → IsToken offset word x → is_whole x bytes ≡ true
    → Cut (offset + length word) bytes o
    → Cut offset (word ++ bytes) (put_in_front (record { symbol = x; offset = offset }) o)
behind_token offset word bytes x (Ok tokens) is over are =
    let same : offset + length word + length bytes ≡ offset + length (word ++ bytes) =
    omega (arith, length-append word bytes) in
    a_token offset word bytes x tokens is over
    (subst (λ end. AreTokens end [] (offset + length word) bytes tokens) same are)
behind_token offset word bytes x (Err fault) is over (tokens, end, rest, are, stops) = (
  record { symbol = x; offset = offset } ∷ tokens,
  end,
  rest,
  a_token offset word bytes x tokens is over are,
  stops,
)

token_some : (offset : ℕ) (word : List ℕ) (x : Symbol) → IsToken offset word x → 1 ≤ length word
unfolding quoted
token_some offset word x it = grind (arith, numeral_parts, length-append, each_sign)

-- a token, and then the rest
cut_word : (offset : ℕ) (word rest : List ℕ) (x : Symbol) → IsToken offset word x
    → front_piece offset (word ++ rest) ≡ token x (length word)
    → cut_from offset 0 (word ++ rest)
    ≡ put_in_front (record { symbol = x; offset = offset }) (cut_from (offset + length word) 0 rest)
cut_word offset word rest x is front =
    cut_token offset (word ++ rest) x (length word) front (token_some offset word x is)
    ∙ ap (λ all. put_in_front (record { symbol = x; offset = offset })
    (cut_from (offset + length word) 0 all)) (drop-append_seam word rest)

-- of at most `n` bytes
cut_so : (n offset : ℕ) (bytes : List ℕ) → length bytes ≤ n
    → Cut offset bytes (cut_from offset 0 bytes)
unfolding cut_from
cut_so n offset [] few = let same : offset ≡ offset + 0 = omega arith in
    subst (λ end. AreTokens end [] offset [] []) same
    (let h : AreTokens offset [] offset [] [] = no_more in h)
cut_so zero offset (b ∷ bs) few = absurd (omega arith)
cut_so (suc n) offset (b ∷ bs) few =
    go (λ offset bytes few. cut_so n offset bytes few) (piece_at offset b bs) refl
    (piece_found offset b bs)
  where
    go : ((offset : ℕ) (bytes : List ℕ) → length bytes ≤ n
        → Cut offset bytes (cut_from offset 0 bytes)) → (p : Piece) → piece_at offset b bs ≡ p
        → Found offset (b ∷ bs) p → Cut offset (b ∷ bs) (cut_from offset 0 (b ∷ bs))
    go more blank e (c, cs, same, is) =
        let first : b ≡ c = cc in
        subst (Cut offset (b ∷ bs)) (sym (cut_blank offset (b ∷ bs) e))
        (behind_blank offset b bs (cut_from (offset + 1) 0 bs) (rw first is)
        (more (offset + 1) bs (omega arith)))
    go more (token x width) e (word, rest, cut, many, is, over) =
        let front : front_piece offset (word ++ rest) ≡ token x (length word) =
        ap (front_piece offset) (sym cut) ∙ e ∙ ap (token x) (sym many) in
        let fewer : length rest ≤ n =
        omega (arith, token_some offset word x is, ap length cut, length-append word rest) in
        subst (λ all. Cut offset all (cut_from offset 0 all)) (sym cut)
        (subst (Cut offset (word ++ rest)) (sym (cut_word offset word rest x is front))
        (behind_token offset word rest x (cut_from (offset + length word) 0 rest) is over
        (more (offset + length word) rest fewer)))
    go more (bad f) e stops =
        subst (Cut offset (b ∷ bs)) (sym (cut_bad offset (b ∷ bs) f e))
        ([], offset, b ∷ bs, no_more, stops)

no_tokens : (o : Result (List Placed) QueryFault) → o ≡ with_tokens [] o
no_tokens (Ok ts) = refl
no_tokens (Err e) = refl

one_token : (t : Placed) (ts : List Placed) (o : Result (List Placed) QueryFault)
    → put_in_front t (with_tokens ts o) ≡ with_tokens (t ∷ ts) o
one_token t ts (Ok us) = refl
one_token t ts (Err e) = refl

-- the tokens that the bytes have are those that are cut
tokens_cut : (end : ℕ) (rest : List ℕ) (offset : ℕ) (bytes : List ℕ) (tokens : List Placed)
    → AreTokens end rest offset bytes tokens
    → cut_from offset 0 bytes ≡ with_tokens tokens (cut_from end 0 rest)
tokens_cut end rest _ _ _ no_more = no_tokens (cut_from end 0 rest)
tokens_cut end rest _ _ _ (white_space offset b bytes tokens e are) =
    cut_blank offset (b ∷ bytes) (if_then (is_blank b) _ _ e)
    ∙ tokens_cut end rest (offset + 1) bytes tokens are
tokens_cut end rest _ _ _ (a_token offset word bytes x tokens is over are) =
    let first : Placed = record { symbol = x; offset = offset } in
    cut_word offset word bytes x is (token_front offset word bytes x is over)
    ∙ ap (put_in_front first) (tokens_cut end rest (offset + length word) bytes tokens are)
    ∙ one_token first tokens (cut_from end 0 rest)

-- ---- the laws

cut_all : (bytes : List ℕ) → Cut 0 bytes (cut_of bytes)
cut_all bytes = let all : length bytes ≤ length bytes = omega arith in
    cut_so (length bytes) 0 bytes all

pub tokens_make_text : (bytes : List ℕ) (tokens : List Placed)
    → (cut_of bytes ≡ Ok tokens) ↔ AreTokens (length bytes) [] 0 bytes tokens
unfolding cut_from
tokens_make_text bytes tokens = (
  λ e. let same : 0 + length bytes ≡ length bytes = omega arith in
      subst (λ end. AreTokens end [] 0 bytes tokens) same (subst (Cut 0 bytes) e (cut_all bytes)),
  λ are. tokens_cut (length bytes) [] 0 bytes tokens are ∙ ap Ok (append-nil tokens),
)

-- no bytes have two lists of tokens
pub one_cut : (bytes : List ℕ) (a b : List Placed) → AreTokens (length bytes) [] 0 bytes a
    → AreTokens (length bytes) [] 0 bytes b → a ≡ b
one_cut bytes a b s t = grind (arith, tokens_make_text)

pub stop_cuts : (bytes : List ℕ) (fault : QueryFault)
    → (cut_of bytes ≡ Err fault) ↔ IsStopped bytes fault
stop_cuts bytes fault = grind (arith, common_steps, cut_all, tokens_cut, cut_bad, stop_front)
