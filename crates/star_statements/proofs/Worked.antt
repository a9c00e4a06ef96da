-- Texts with their statements, statements with what they ask for, statements that were read of a
-- source, and more bytes than are counted.
use Rattle.std.{proofs.Common.{◌≡◌, ◌↔◌, ◌<◌, ◌≤◌, ◌++◌, ◌-◌, ◌^◌, ℕ, Bool, List, [], ◌∷◌, Option, true, false, arith, codes, length, refl}, specs.Borrow.Bor, specs.Io.KnownBytes.{Consumes, IsAtEnd}}
use Rattle.star_common.proofs.Tables.{Gives}
use Rattle.star_statements.{specs.Statements.{ends_statement, joined_to_first, statement_lines, statements_in, statements_of}, specs.declared.questions.Question.TheVariants.{Nothing, TooLong, Query, Explain, Quote}, specs.Blanks.without_blanks, specs.Questions.{asked_by, asked_by_text, begins_with_word}, specs.Sources.{IsPastCounting, IsStatementRead}, specs.Views.question_view, proofs.QuestionLemmas.{queried, too_long}}

-- a line that ends with a semicolon ends a statement, with blanks and a carriage return after it
-- too; a semicolon in a line ends none, and a carriage return alone ends no line; what follows the
-- last line end is a statement too, also where it is nothing; an empty line belongs to what follows
-- it
statements : Gives statements_of (
    (codes "a;\nb;\nc", codes "a;\n" ∷ codes "b;\n" ∷ codes "c" ∷ [])
    ∷ (codes "a; b\nc\n;\nd", codes "a; b\nc\n;\n" ∷ codes "d" ∷ [])
    ∷ (codes "a; \t\r\nb;\rc", codes "a; \t\r\n" ∷ codes "b;\rc" ∷ [])
    ∷ (codes "a;\n\n", codes "a;\n" ∷ codes "\n" ∷ []) ∷ ([], [] ∷ []) ∷ [])
unfolding ends_statement statements_in joined_to_first statement_lines
statements = refl

-- a query's text begins with its first byte that is no blank; a word before it, in letters of
-- either case, has blanks after it
questions : Gives asked_by (
    (codes "\n\r\n  select\n;\n", Query (codes "select\n;\n"))
    ∷ (codes " Explain\n\tselect;\n", Explain (codes "select;\n")) ∷ (codes "QUOTE ", Quote [])
    ∷ (codes "explained select;", Query (codes "explained select;"))
    ∷ (codes "explain;", Query (codes "explain;")) ∷ (codes "explain", Query (codes "explain"))
    ∷ (codes "selects it", Query (codes "selects it")) ∷ (codes " \t\r\n", Nothing) ∷ [])
unfolding asked_by_text begins_with_word without_blanks
questions = refl

-- 65,536 bytes, and one more
longest : (rest : List ℕ) → length rest ≡ 65535 → asked_by_text (115 ∷ rest) ≡ Query (115 ∷ rest)
unfolding begins_with_word
longest rest long = queried (115 ∷ rest) (omega arith) (omega (arith, long)) refl refl

one_more : (rest : List ℕ) → length rest ≡ 65536 → asked_by_text (115 ∷ rest) ≡ TooLong
one_more rest long = too_long (115 ∷ rest) (omega (arith, long))

viewed : (query : Bor (List ℕ)) → Gives question_view (
    (Nothing, Nothing) ∷ (TooLong, TooLong) ∷ (Query query, Query query.now)
    ∷ (Explain query, Explain query.now) ∷ (Quote query, Quote query.now) ∷ [])
viewed query = refl

-- ---- what was read of a source: a statement, and all bytes that can be counted

module _ (old new : Option (List ℕ)) (text statement : List ℕ) (is_ended : Bool) where
  read : IsStatementRead old new text is_ended statement ↔ (Consumes old new statement
      × (asked_by_text text ≡ asked_by statement)
      × (is_ended ≡ true → (rest : List ℕ)
      → statements_of (statement ++ rest) ≡ statement ∷ statements_of rest)
      × (is_ended ≡ true → 0 < length statement)
      × (is_ended ≡ false → statements_of statement ≡ statement ∷ [])
      × (is_ended ≡ false → IsAtEnd new))
  read = (
    λ r. (r.read, r.asked, r.first, r.some, r.last, r.at_end),
    λ h. record { read = h.0; asked = h.1; first = h.2; some = h.3; last = h.4; at_end = h.5 },
  )

  past_counting : IsPastCounting old new text ↔ (Consumes old new text × (2 ^ 64 - 1 ≤ length text))
  past_counting = (λ p. (p.consumed, p.many), λ h. record { consumed = h.0; many = h.1 })
