-- A statement that is being read, from its first byte to its last.
use Rattle.std.{proofs.Common.{◌≡◌, ◌∙◌, ◌++◌, ◌+◌, ◌<◌, ◌≤◌, ◌&&◌, ◌||◌, ℕ, List, [], ◌∷◌, Bool, true, false, Option, Some, append-nil, append_assoc, ap, arith, length, subst, sym, take}, proofs.lemmas.List.{length-append, length-take}, proofs.lemmas.Grind.common_steps, specs.Prelude.{IfSome, if◌then◌else◌, nat_lt}, specs.Io.KnownBytes.{Consumes, IsAtEnd}}
use Rattle.star_statements.{specs.Private.Drafts.{IsDraft, closes_statement, cut_statements, ends_behind, is_empty, kept, with_byte}, specs.Blanks.without_blanks, specs.Questions.{asked_by, asked_by_text}, specs.Sources.IsStatementRead, specs.Statements.{joined_to_first, statements_of}, proofs.BlankLemmas.{if_false, if_true, without_blanks-more}, proofs.QuestionLemmas.asked-front, proofs.StatementLemmas.{joined_assoc, statements_cut, statements_from_cut}}
use Rattle.star_common.specs.WhiteSpace.{is_blank}

-- ---- what is kept

not_empty : (text : List ℕ) → 0 < length text → is_empty text ≡ false
not_empty it some = grind arith

is_empty-take : (most many : ℕ) → many ≡ most + 1 → (text : List ℕ)
    → is_empty (take many text) ≡ is_empty text
is_empty-take most many more it = grind (arith, common_steps)

one_byte : (most many : ℕ) → many ≡ most + 1 → (text : List ℕ) (c : ℕ) (before : Bool)
    → (is_empty text && is_blank c) ≡ before
    → (if before || nat_lt most (length (take many text)) then take many text else take many text
    ++ c ∷ []) ≡ take many (if before then [] else text ++ c ∷ [])
one_byte most many more text c it e = grind (arith, common_steps)

kept_next : (most many : ℕ) → many ≡ most + 1 → (statement : List ℕ) (c : ℕ)
    → (if (is_empty (take many (without_blanks statement)) && is_blank c)
    || nat_lt most (length (take many (without_blanks statement)))
    then take many (without_blanks statement) else take many (without_blanks statement) ++ c ∷ [])
    ≡ take many (without_blanks (statement ++ c ∷ []))
kept_next most many more statement c = grind (arith, is_empty-take, one_byte, without_blanks-more)

pub kept-more : (statement : List ℕ) (c : ℕ)
    → with_byte (kept statement) c ≡ kept (statement ++ c ∷ [])
unfolding kept
kept-more statement c = kept_next 65536 65537 (omega arith) statement c

pub length-kept : (statement : List ℕ) → length (kept statement) ≤ 65537
unfolding kept
length-kept statement = within 65537 (without_blanks statement)
  where
    within : (many : ℕ) (text : List ℕ) → length (take many text) ≤ many
    within many text = omega (arith, length-take many text)

asked-kept : (statement : List ℕ) → asked_by_text (kept statement) ≡ asked_by statement
unfolding kept
asked-kept statement = asked-front (without_blanks statement)

-- ---- what was read

pub consumed_both : (old mid new : Option (List ℕ)) (front back : List ℕ) → Consumes old mid front
    → Consumes mid new back → Consumes old new (front ++ back)
consumed_both it mid new front back first second = grind (arith, common_steps)

pub consumed_none : (known : Option (List ℕ)) → Consumes known known []
consumed_none it = grind arith

-- ---- from the first byte to the last

pub draft_begins : (known : Option (List ℕ)) → IsDraft known known [] false []
unfolding kept without_blanks
draft_begins known = grind (arith, consumed_none, statements_cut)

-- one byte more, which ends no statement
pub draft_goes_on : (old mid new : Option (List ℕ)) (text : List ℕ) (ends : Bool) (begun : List ℕ)
    (c : ℕ)
    → IsDraft old mid text ends begun → Consumes mid new (c ∷ []) → closes_statement ends c ≡ false
    → IsDraft old new (with_byte text c) (ends_behind ends c) (begun ++ c ∷ [])
unfolding cut_statements
draft_goes_on old mid new text ends begun c draft byte open_line =
    grind (arith, consumed_both, kept-more, append_assoc, if_false, joined_assoc)

-- the line end that ends it
pub draft_ends : (old mid new : Option (List ℕ)) (text : List ℕ) (ends : Bool) (begun : List ℕ)
    (c : ℕ)
    → IsDraft old mid text ends begun → Consumes mid new (c ∷ []) → closes_statement ends c ≡ true
    → IsStatementRead old new (with_byte text c) true (begun ++ c ∷ [])
unfolding cut_statements joined_to_first
draft_ends old mid new text ends begun c draft byte closing = record {
  read = consumed_both old mid new begun (c ∷ []) draft.read byte;
  asked = ap asked_by_text (ap (λ t. with_byte t c) draft.keeps ∙ kept-more begun c)
      ∙ asked-kept (begun ++ c ∷ []);
  first = λ _ rest.
      ap statements_of (append_assoc begun (c ∷ []) rest) ∙ draft.splits (c ∷ rest)
      ∙ ap (joined_to_first begun) (if_true _ _ (closes_statement ends c) closing)
      ∙ ap (λ pieces. (begun ++ c ∷ []) ∷ pieces) (sym (statements_from_cut rest));
  some = λ _. omega (arith, length-append begun (c ∷ []));
  last = λ e. cc;
  at_end = λ e. absurd (cc);
}

-- the end of what is read
pub draft_is_last : (old mid new : Option (List ℕ)) (text : List ℕ) (ends : Bool) (begun : List ℕ)
    → IsDraft old mid text ends begun → Consumes mid new [] → IsAtEnd new
    → IsStatementRead old new text false begun
unfolding cut_statements joined_to_first
draft_is_last old mid new text ends begun draft nothing at_end =
    grind (arith, append-nil, consumed_both, asked-kept)

-- what holds of the value that there is
pub of_some : (P : ℕ → Type 0) (next : Option ℕ) (c : ℕ) → next ≡ Some c → IfSome next P → P c
of_some P next c e holds = let Q : Option ℕ → Type 0 = λ o. IfSome o P in subst Q e holds
