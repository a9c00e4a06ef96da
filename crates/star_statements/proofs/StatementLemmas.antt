-- The statements of a text have its bytes, and are cut by its bytes one after another.
use Rattle.std.{proofs.Common.{◌≡◌, ◌∙◌, ◌++◌, ◌==◌, ◌&&◌, ◌||◌, ℕ, List, [], ◌∷◌, Bool, true, false, ap, refl, subst, sym, arith}, proofs.lemmas.Bool.eqb-true, proofs.Math.Bool.and-false, proofs.lemmas.Grind.common_steps, specs.Prelude.if◌then◌else◌, specs.List.concat}
use Rattle.star_statements.{proofs.BlankLemmas.if_false, specs.Statements.{ends_statement, joined_to_first, statement_lines, statements_in, statements_of}, specs.Private.Drafts.{cut_statements, ends_behind}}
use Rattle.star_common.specs.WhiteSpace.{is_blank}

pub concat-joined : (piece : List ℕ) (others : List (List ℕ))
    → concat (joined_to_first piece others) ≡ piece ++ concat others
unfolding joined_to_first
concat-joined piece it = grind (arith, common_steps)

concat-chosen : (b : Bool) (xs ys : List (List ℕ)) (text : List ℕ) → concat xs ≡ text
    → concat ys ≡ text → concat (if b then xs else ys) ≡ text
concat-chosen it xs ys text e f = grind arith

concat-lines : (text : List ℕ) → concat (statement_lines text) ≡ text
unfolding statement_lines
concat-lines [] = refl
concat-lines (c ∷ rest) = grind (arith, concat-lines rest, concat-chosen, concat-joined)

concat-grouped : (lines : List (List ℕ)) → concat (statements_in lines) ≡ concat lines
unfolding statements_in
concat-grouped [] = refl
concat-grouped (line ∷ []) = refl
concat-grouped (line ∷ (next ∷ lines)) =
    grind (arith, concat-grouped (next ∷ lines), concat-chosen, concat-joined)

pub concat-statements : (text : List ℕ) → concat (statements_of text) ≡ text
concat-statements text = concat-grouped (statement_lines text) ∙ concat-lines text

-- ---- byte by byte

pub joined_assoc : (piece next : List ℕ) (others : List (List ℕ))
    → joined_to_first piece (joined_to_first next others) ≡ joined_to_first (piece ++ next) others
unfolding joined_to_first
joined_assoc piece next it = grind (arith, common_steps)

-- one piece at least
abbrev pub HasOne : List (List ℕ) → Type 0
HasOne pieces = (first : List ℕ) × ((others : List (List ℕ)) × (pieces ≡ first ∷ others))

joined_some : (piece : List ℕ) (others : List (List ℕ)) → HasOne (joined_to_first piece others)
unfolding joined_to_first
joined_some piece [] = (piece, ([], refl))
joined_some piece (first ∷ others) = (piece ++ first, (others, refl))

chosen_some : (b : Bool) (xs ys : List (List ℕ)) → HasOne xs → HasOne ys
    → HasOne (if b then xs else ys)
chosen_some true xs ys some _ = some
chosen_some false xs ys _ some = some

pub lines_some : (text : List ℕ) → HasOne (statement_lines text)
unfolding statement_lines
lines_some [] = ([], ([], refl))
lines_some (c ∷ rest) = grind (arith, chosen_some, joined_some)

cut_some : (ends : Bool) (text : List ℕ) → HasOne (cut_statements ends text)
unfolding cut_statements
cut_some ends [] = ([], ([], refl))
cut_some ends (c ∷ rest) = grind (arith, chosen_some, joined_some)

joined-nil : (pieces : List (List ℕ)) → HasOne pieces → joined_to_first [] pieces ≡ pieces
unfolding joined_to_first
joined-nil it some = grind arith

grouped_line : (line : List ℕ) (lines : List (List ℕ)) → HasOne lines → statements_in (line ∷ lines)
    ≡ (if ends_statement line then line ∷ statements_in lines
    else joined_to_first line (statements_in lines))
unfolding statements_in
grouped_line line it some = grind arith

both : (a p b s e : Bool)
    → ((a && (p && (b && true))) || (s || (e && b))) ≡ (s || (((a && p) || e) && b))
both it p b s e = grind arith

ends-one : (s b : Bool) → ((s && true) || false) ≡ (s || (false && b))
ends-one it b = grind arith

ends-more : (line : List ℕ) (c : ℕ)
    → ends_statement (line ++ c ∷ []) ≡ ends_behind (ends_statement line) c
unfolding ends_statement
ends-more [] c = ends-one (c == 59) (is_blank c)
ends-more (x ∷ line) c = grind (arith, common_steps, ends-more line c)

-- what stands behind a line end
behind_end : (line rest : List ℕ) (ends : Bool) → ends_statement line ≡ ends
    → statements_in (statement_lines rest) ≡ cut_statements false rest
    → statements_in ((line ++ 10 ∷ []) ∷ statement_lines rest)
    ≡ joined_to_first line (if ends && true then (10 ∷ []) ∷ cut_statements false rest
    else joined_to_first (10 ∷ []) (cut_statements (ends_behind ends 10) rest))
unfolding joined_to_first
behind_end line rest ends e same = grind (arith, grouped_line, lines_some, ends-more, joined_assoc)

-- what a line that has begun comes to with these bytes behind it
abbrev IsCutAfter : List ℕ → List ℕ → Type 0
IsCutAfter text line = statements_in (joined_to_first line (statement_lines text))
    ≡ joined_to_first line (cut_statements (ends_statement line) text)

one_more : (rest : List ℕ) → ((line : List ℕ) → IsCutAfter rest line)
    → (c : ℕ) (line : List ℕ) (b : Bool)
    → (c == 10) ≡ b
    → statements_in (joined_to_first line
    (if b then (c ∷ []) ∷ statement_lines rest
    else joined_to_first (c ∷ []) (statement_lines rest)))
    ≡ joined_to_first line (if ends_statement line && b then (c ∷ []) ∷ cut_statements false rest
    else joined_to_first (c ∷ []) (cut_statements (ends_behind (ends_statement line) c) rest))
unfolding joined_to_first ends_statement
one_more rest behind c line true e =
    let same : statements_in (statement_lines rest) ≡ cut_statements false rest =
    ap statements_in (sym (joined-nil (statement_lines rest) (lines_some rest))) ∙ behind []
    ∙ joined-nil (cut_statements false rest) (cut_some false rest) in
    subst (λ x. statements_in (joined_to_first line ((x ∷ []) ∷ statement_lines rest))
    ≡ joined_to_first line (if ends_statement line && true then (x ∷ []) ∷ cut_statements false rest
    else joined_to_first (x ∷ []) (cut_statements (ends_behind (ends_statement line) x) rest)))
    (sym (eqb-true c 10 e)) (behind_end line rest (ends_statement line) refl same)
one_more rest behind c line false e = grind (arith, joined_assoc, ends-more, if_false, and-false)

lines_cut : (text line : List ℕ) → IsCutAfter text line
unfolding statement_lines statements_in joined_to_first cut_statements
lines_cut [] line = refl
lines_cut (c ∷ rest) line = one_more rest (lines_cut rest) c line (c == 10) refl

pub statements_cut : (text : List ℕ)
    → statements_of text ≡ joined_to_first [] (cut_statements false text)
unfolding ends_statement
statements_cut text =
    ap statements_in (sym (joined-nil (statement_lines text) (lines_some text))) ∙ lines_cut text []

pub statements_from_cut : (text : List ℕ) → statements_of text ≡ cut_statements false text
statements_from_cut text = grind (arith, statements_cut, joined-nil, cut_some)
