-- The bytes after an opening quote: a text that is closed, or stopped by a byte, or open.
use Rattle.std.{proofs.Common.{◌≡◌, ◌∙◌, refl, sym, ap, subst, ℕ, suc, ◌+◌, ◌-◌, true, false, List, [], ◌∷◌, ◌++◌, length, arith, length-append, append_assoc, append-nil}, proofs.Math.Seq.take-append_seam, proofs.lemmas.Bool.{and_from, and_parts, eqb-true}, specs.Prelude.◌==◌, specs.List.{flat_map, list_all}}
use Rattle.star_common.specs.{Quotes.doubled, Quotes.quoted, Printable.is_printable}
use Rattle.star_query.{specs.Private.Cut.{Ending, token, bad, farther, ending_after, undoubled, text_piece}, specs.declared.fault.QueryFault.TheVariants.{BadCharacter, OpenText}, specs.Symbols.text, specs.Tokens.is_whole, specs.Private.Lexed.ended_at, proofs.Counting.by_bool}
use Rattle.star_query.specs.Private.Cut as cut

-- ---- the three forms

pub data Written : List ℕ → Type 0 where
  closed : (t rest : List ℕ) → list_all is_printable t ≡ true → is_whole (text []) rest ≡ true
      → Written (flat_map doubled t ++ 39 ∷ rest)
  stopped : (t rest : List ℕ) (b : ℕ) → list_all is_printable t ≡ true → is_printable b ≡ false
      → Written (flat_map doubled t ++ b ∷ rest)
  open_ended : (t : List ℕ) → list_all is_printable t ≡ true → Written (flat_map doubled t)

one_more : (b : ℕ) (bs : List ℕ) → is_printable b ≡ true → Written bs → Written (doubled b ++ bs)
one_more b _ printed (closed t rest all over) =
    subst Written (append_assoc (doubled b) (flat_map doubled t) (39 ∷ rest))
    (closed (b ∷ t) rest (and_from _ _ printed all) over)
one_more b _ printed (stopped t rest c all wrong) =
    subst Written (append_assoc (doubled b) (flat_map doubled t) (c ∷ rest))
    (stopped (b ∷ t) rest c (and_from _ _ printed all) wrong)
one_more b _ printed (open_ended t all) = open_ended (b ∷ t) (and_from _ _ printed all)

no_quote_first : (b : ℕ) (bs : List ℕ) → (b == 39) ≡ false → Written bs → Written (b ∷ bs)
no_quote_first b bs other rest =
    by_bool (is_printable b)
    (λ printed. let more = rw other at (one_more b bs printed rest) in more)
    (λ wrong. stopped [] bs b refl wrong)

pub written : (bytes : List ℕ) → Written bytes
written [] = open_ended [] refl
written (b ∷ []) =
    by_bool (b == 39) (λ quote. rw (eqb-true b 39 quote) (closed [] [] refl refl))
    (λ other. no_quote_first b [] other (written []))
written (b ∷ c ∷ cs) =
    by_bool (b == 39)
    (λ quote. by_bool (c == 39)
    (λ again. rw (eqb-true b 39 quote, eqb-true c 39 again) (one_more 39 cs refl (written cs)))
    (λ other. rw (eqb-true b 39 quote) (closed [] (c ∷ cs) refl (rw other refl))))
    (λ other. no_quote_first b (c ∷ cs) other (written (c ∷ cs)))

-- ---- what the lexer makes of them

none_on : (e : Ending) → e ≡ ended_at 0 e
none_on (cut.closed n) = ap cut.closed (let h : n ≡ 0 + n = omega arith in h)
none_on (cut.stopped n) = ap cut.stopped (let h : n ≡ 0 + n = omega arith in h)
none_on cut.open_ended = refl

one_on : (n : ℕ) (e : Ending) → farther (ended_at n e) ≡ ended_at (suc n) e
one_on n (cut.closed m) = ap cut.closed (let h : n + m + 1 ≡ suc n + m = omega arith in h)
one_on n (cut.stopped m) = ap cut.stopped (let h : n + m + 1 ≡ suc n + m = omega arith in h)
one_on n cut.open_ended = refl

-- a text ends where what follows its front does
ends_on : (t xs : List ℕ) → list_all is_printable t ≡ true
    → ending_after false (flat_map doubled t ++ xs)
    ≡ ended_at (length (flat_map doubled t)) (ending_after false xs)
ends_on [] xs printed = none_on (ending_after false xs)
ends_on (b ∷ t) xs printed =
    let both = and_parts (is_printable b) (list_all is_printable t) printed in
    let n = length (flat_map doubled t) in
    let e = ending_after false xs in
    by_bool (b == 39)
    (λ quote. rw (quote, ends_on t xs both.1) (ap farther (one_on n e) ∙ one_on (suc n) e))
    (λ other. rw (other, other, both.0, ends_on t xs both.1) (one_on n e))

said_again : (t : List ℕ) → undoubled (flat_map doubled t) ≡ t
said_again [] = refl
said_again (b ∷ t) =
    by_bool (b == 39)
    (λ quote. rw (quote, said_again t) (ap (λ c. c ∷ t) (sym (eqb-true b 39 quote))))
    (λ other. rw (other, other, said_again t) refl)

closes : (rest : List ℕ) → is_whole (text []) rest ≡ true
    → ending_after false (39 ∷ rest) ≡ cut.closed 1
closes [] over = refl
closes (c ∷ cs) over =
    by_bool (c == 39) (λ quote. absurd (let wrong = rw quote at over in cc))
    (λ other. rw other refl)

pub read_closed : (offset : ℕ) (t rest : List ℕ) → list_all is_printable t ≡ true
    → is_whole (text []) rest ≡ true
    → text_piece offset (flat_map doubled t ++ 39 ∷ rest) ≡ token (text t) (length (quoted t))
unfolding quoted
read_closed offset t rest printed over =
    let inside = flat_map doubled t in
    let e : ending_after false (inside ++ 39 ∷ rest) ≡ cut.closed (length inside + 1) =
    ends_on t (39 ∷ rest) printed ∙ ap (ended_at (length inside)) (closes rest over) in
    let less : length inside + 1 - 1 ≡ length inside = omega arith in
    let width : length inside + 1 + 1 ≡ length (quoted t) =
    omega (arith, length-append inside (39 ∷ [])) in
    rw (e, less, width, take-append_seam inside (39 ∷ rest), said_again t) refl

pub read_open : (offset : ℕ) (t : List ℕ) → list_all is_printable t ≡ true
    → text_piece offset (flat_map doubled t) ≡ bad (OpenText offset)
read_open offset t printed =
    let e : ending_after false (flat_map doubled t) ≡ cut.open_ended =
    ap (ending_after false) (sym (append-nil (flat_map doubled t))) ∙ ends_on t [] printed in
    rw e refl

-- no byte that may not stand in a text is a quote
no_quote : (b : ℕ) → is_printable b ≡ false → (b == 39) ≡ false
no_quote b fails = by_bool (b == 39)
    (λ quote. absurd (let wrong = rw (eqb-true b 39 quote) at fails in cc)) (λ other. other)

pub read_stopped : (offset : ℕ) (t rest : List ℕ) (b : ℕ) → list_all is_printable t ≡ true
    → is_printable b ≡ false
    → text_piece offset (flat_map doubled t ++ b ∷ rest)
    ≡ bad (BadCharacter (offset + 1 + length (flat_map doubled t)))
read_stopped offset t rest b printed wrong =
    let n = length (flat_map doubled t) in
    let here : ending_after false (b ∷ rest) ≡ cut.stopped 0 = rw (no_quote b wrong, wrong) refl in
    let e : ending_after false (flat_map doubled t ++ b ∷ rest) ≡ cut.stopped n =
    ends_on t (b ∷ rest) printed ∙ ap (ended_at n) here
    ∙ ap cut.stopped (let h : n + 0 ≡ n = omega arith in h) in
    rw e refl
