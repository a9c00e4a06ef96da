-- The first line of a text.
use Rattle.std.{proofs.Common.{◌≡◌, ◌==◌, ◌<◌, ◌&&◌, ◌∙◌, ◌∷◌, ◌++◌, [], ℕ, Bool, true, false, zero, suc, List, drop, take, get_or, length, arith, ap, sym, refl, inl, inr}, proofs.lemmas.Bool.{cases_Bool, and_parts, and_right, both_ways, eqb-true}, specs.Prelude.if◌then◌else◌}
use Rattle.star_schema.specs.Records.{with_first}
use Rattle.star_program.specs.{Text.Lines.begins_with, Text.Lines.lines_of, Private.Returns.without_return}

-- a last byte that isn't a carriage return stays
pub without_return-push : (front : List ℕ) (b : ℕ)
    → without_return (front ++ b ∷ []) ≡ (if b == 13 then front else front ++ b ∷ [])
without_return-push [] b = refl
without_return-push (a ∷ []) b = grind (arith, cases_Bool)
without_return-push (a ∷ c ∷ front) b = grind (arith, without_return-push (c ∷ front) b, cases_Bool)

-- of two that aren't both so, where the second is
not_first : (x y : Bool) → (x && y) ≡ false → y ≡ true → x ≡ false
not_first true y both second = let bad : y ≡ false = both in absurd (both_ways y bad second)
not_first false y both second = refl

pub no_lines : lines_of [] ≡ []
unfolding lines_of
no_lines = refl

pub ends_here : (text : List ℕ) → lines_of (10 ∷ text) ≡ [] ∷ lines_of text
unfolding lines_of
ends_here text = refl

pub goes_on : (b : ℕ) (text : List ℕ) → (b == 10) ≡ false
    → ((b == 13) && begins_with 10 text) ≡ false
    → lines_of (b ∷ text) ≡ with_first b (lines_of text)
unfolding lines_of
goes_on b text other plain = rw (other, plain) refl

pub returns_here : (b : ℕ) (text : List ℕ) → (b == 10) ≡ false
    → ((b == 13) && begins_with 10 text) ≡ true → lines_of (b ∷ text) ≡ lines_of text
unfolding lines_of
returns_here b text other plain = rw (other, plain) refl

-- a byte before a line feed joins the line, but for a carriage return
front_returned : (b : ℕ) (text : List ℕ) (k : ℕ) → ((b == 13) && begins_with 10 text) ≡ true
    → ((j : ℕ) → j < k → (get_or text j 0 == 10) ≡ false)
    → without_return (b ∷ take k text) ≡ without_return (take k text)
front_returned b it k returned before = grind (arith, and_parts, both_ways)

front_plain : (b : ℕ) (text : List ℕ) (k : ℕ) → ((b == 13) && begins_with 10 text) ≡ false
    → k < length text → (get_or text k 0 == 10) ≡ true
    → without_return (b ∷ take k text) ≡ b ∷ without_return (take k text)
front_plain b it k plain within at = grind (arith, not_first)

-- a text with a line feed
pub first_line : (text : List ℕ) (k : ℕ) → k < length text → (get_or text k 0 == 10) ≡ true
    → ((j : ℕ) → j < k → (get_or text j 0 == 10) ≡ false)
    → lines_of text ≡ without_return (take k text) ∷ lines_of (drop (suc k) text)
first_line [] k within at before = absurd (omega arith)
first_line (b ∷ text) zero within at before = rw (eqb-true b 10 at) (ends_here text)
first_line (b ∷ text) (suc k) within at before =
    let other : (b == 10) ≡ false = before 0 (omega arith) in
    let later : (j : ℕ) → j < k → (get_or text j 0 == 10) ≡ false =
    λ j h. before (suc j) (omega arith) in
    let rest : lines_of text ≡ without_return (take k text) ∷ lines_of (drop (suc k) text) =
    first_line text k (omega arith) at later in
    elim (cases_Bool ((b == 13) && begins_with 10 text)) [
      | inl returned ↦ returns_here b text other returned ∙ rest
          ∙ ap (λ l. l ∷ lines_of (drop (suc k) text))
          (sym (front_returned b text k returned later))
      | inr plain ↦ goes_on b text other plain ∙ ap (with_first b) rest
          ∙ ap (λ l. l ∷ lines_of (drop (suc k) text))
          (sym (front_plain b text k plain (omega arith) at))
    ]

pub empty_lines : (text : List ℕ) → (length text == 0) ≡ true → lines_of text ≡ []
empty_lines [] empty = no_lines
empty_lines (b ∷ text) empty = let none : length (b ∷ text) ≡ 0 =
    eqb-true (length (b ∷ text)) 0 empty in absurd (omega arith)

-- a text without one
pub only_line : (b : ℕ) (text : List ℕ)
    → ((j : ℕ) → j < length (b ∷ text) → (get_or (b ∷ text) j 0 == 10) ≡ false)
    → lines_of (b ∷ text) ≡ (b ∷ text) ∷ []
only_line b [] before = goes_on b [] (before 0 (omega arith)) (and_right (b == 13) false refl)
    ∙ ap (with_first b) no_lines
only_line b (c ∷ text) before =
    goes_on b (c ∷ text) (before 0 (omega arith))
    (and_right (b == 13) (c == 10) (before 1 (omega arith)))
    ∙ ap (with_first b) (only_line c text (λ j h. before (suc j) (omega arith)))

pub one_line : (text : List ℕ) → (length text == 0) ≡ false
    → ((j : ℕ) → j < length text → (get_or text j 0 == 10) ≡ false)
    → lines_of text ≡ text ∷ lines_of []
one_line [] some before = let bad : true ≡ false = some in cc
one_line (b ∷ text) some before =
    only_line b text before ∙ ap (λ ls. (b ∷ text) ∷ ls) (sym no_lines)
