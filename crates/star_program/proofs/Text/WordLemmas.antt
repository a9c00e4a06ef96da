-- The first word of a line.
use Rattle.std.{proofs.Common.{◌≡◌, ◌==◌, ◌<◌, ◌||◌, ◌∙◌, ◌∷◌, [], ℕ, Bool, true, false, not, zero, suc, List, drop, take, get_or, length, arith, ap, sym, refl, ◌≢◌, Some, None, add-zero, length-drop}, specs.Prelude.filter, specs.List.position, proofs.lemmas.Bool.{eq-eqb, eqb-false, eqb-true, ne_eqb, not-false, not-true, or_parts}, proofs.lemmas.List.get_or-drop, proofs.lemmas.List.Quantifiers.position-Some}
use Rattle.star_program.{proofs.Text.Positions.position-None, specs.Text.Lines.{pieces_of, words_of}}
use Rattle.star_schema.specs.Records.{is_filled, with_first}

pub words_are : (line : List ℕ) → words_of line ≡ filter is_filled (pieces_of line)
unfolding words_of
words_are line = refl

pub no_words : words_of [] ≡ []
unfolding words_of pieces_of
no_words = refl

pub space_first : (line : List ℕ) → words_of (32 ∷ line) ≡ words_of line
unfolding words_of pieces_of
space_first line = refl

-- a line of spaces has no word
pub spaces_alone : (line : List ℕ)
    → ((j : ℕ) → j < length line → not (get_or line j 0 == 32) ≡ false) → words_of line ≡ []
spaces_alone [] spaces = no_words
spaces_alone (b ∷ line) spaces =
    let space : b ≡ 32 = eqb-true b 32 (not-false (b == 32) (spaces 0 (omega arith))) in
    rw space (space_first line ∙ spaces_alone line (λ j h. spaces (suc j) (omega arith)))

-- spaces before the first word don't count
pub after_spaces : (line : List ℕ) (k : ℕ) → k < length line
    → ((j : ℕ) → j < k → not (get_or line j 0 == 32) ≡ false)
    → words_of line ≡ words_of (drop k line)
after_spaces [] k within spaces = absurd (omega arith)
after_spaces (b ∷ line) zero within spaces = refl
after_spaces (b ∷ line) (suc k) within spaces =
    let space : b ≡ 32 = eqb-true b 32 (not-false (b == 32) (spaces 0 (omega arith))) in
    rw space (space_first line
    ∙ after_spaces line k (omega arith) (λ j h. spaces (suc j) (omega arith)))

pub no_pieces : pieces_of [] ≡ [] ∷ []
unfolding pieces_of
no_pieces = refl

pub piece_ends : (line : List ℕ) → pieces_of (32 ∷ line) ≡ [] ∷ pieces_of line
unfolding pieces_of
piece_ends line = refl

pub piece_quoted : (line : List ℕ) → pieces_of (39 ∷ line) ≡ (39 ∷ line) ∷ []
unfolding pieces_of
piece_quoted line = refl

second : (x y : Bool) → x ≡ false → (x || y) ≡ true → y ≡ true
second true y h either = let bad : true ≡ false = h in cc
second false y h either = either

pub piece_on : (b : ℕ) (line : List ℕ) → ((b == 32) || (b == 39)) ≡ false
    → pieces_of (b ∷ line) ≡ with_first b (pieces_of line)
unfolding pieces_of
piece_on b line plain =
    let both = or_parts (b == 32) (b == 39) plain in
    rw (both.1, both.0) refl

cut_piece : (line : List ℕ) (k : ℕ) → k < length line → (get_or line k 0 == 32) ≡ true
    → ((j : ℕ) → j < k → ((get_or line j 0 == 32) || (get_or line j 0 == 39)) ≡ false)
    → pieces_of line ≡ take k line ∷ pieces_of (drop (suc k) line)
cut_piece [] k within at before = absurd (omega arith)
cut_piece (b ∷ line) zero within at before = rw (eqb-true b 32 at) (piece_ends line)
cut_piece (b ∷ line) (suc k) within at before =
    piece_on b line (before 0 (omega arith))
    ∙ ap (with_first b) (cut_piece line k (omega arith) at
    (λ j h. before (suc j) (omega arith)))

quoted_piece : (line : List ℕ) (k : ℕ) → k < length line → (get_or line k 0 == 39) ≡ true
    → ((j : ℕ) → j < k → ((get_or line j 0 == 32) || (get_or line j 0 == 39)) ≡ false)
    → pieces_of line ≡ line ∷ []
quoted_piece [] k within at before = absurd (omega arith)
quoted_piece (b ∷ line) zero within at before = rw (eqb-true b 39 at) (piece_quoted line)
quoted_piece (b ∷ line) (suc k) within at before =
    piece_on b line (before 0 (omega arith))
    ∙ ap (with_first b) (quoted_piece line k (omega arith) at
    (λ j h. before (suc j) (omega arith)))

open_piece : (line : List ℕ)
    → ((j : ℕ) → j < length line → ((get_or line j 0 == 32) || (get_or line j 0 == 39)) ≡ false)
    → pieces_of line ≡ line ∷ []
open_piece [] before = no_pieces
open_piece (b ∷ line) before =
    piece_on b line (before 0 (omega arith))
    ∙ ap (with_first b) (open_piece line (λ j h. before (suc j) (omega arith)))

filled_front : (line : List ℕ) (k : ℕ) → 0 < k → k < length line → is_filled (take k line) ≡ true
filled_front [] k some within = absurd (omega arith)
filled_front (b ∷ line) zero some within = absurd (omega arith)
filled_front (b ∷ line) (suc k) some within = refl

pub filled_whole : (line : List ℕ) → 0 < length line → is_filled line ≡ true
filled_whole [] some = absurd (omega arith)
filled_whole (b ∷ line) some = refl

pub filtered_first : (word : List ℕ) (others : List (List ℕ)) → is_filled word ≡ true
    → filter is_filled (word ∷ others) ≡ word ∷ filter is_filled others
filtered_first word others filled = rw filled refl

-- a word that a space ends
pub cut_word : (line : List ℕ) (k : ℕ) → 0 < k → k < length line → (get_or line k 0 == 32) ≡ true
    → ((j : ℕ) → j < k → ((get_or line j 0 == 32) || (get_or line j 0 == 39)) ≡ false)
    → words_of line ≡ take k line ∷ words_of (drop (suc k) line)
cut_word line k some within at before =
    grind (arith, words_are, cut_piece, filtered_first, filled_front)

-- a word that has a quote
pub quoted_word : (line : List ℕ) (k : ℕ) → k < length line → (get_or line k 0 == 39) ≡ true
    → ((j : ℕ) → j < k → ((get_or line j 0 == 32) || (get_or line j 0 == 39)) ≡ false)
    → words_of line ≡ line ∷ []
quoted_word line k within at before =
    words_are line ∙ ap (filter is_filled) (quoted_piece line k within at before)
    ∙ filtered_first line [] (filled_whole line (omega arith))

-- a word that ends the line
pub last_word : (line : List ℕ) → 0 < length line
    → ((j : ℕ) → j < length line → ((get_or line j 0 == 32) || (get_or line j 0 == 39)) ≡ false)
    → words_of line ≡ line ∷ []
last_word line some before =
    words_are line ∙ ap (filter is_filled) (open_piece line before)
    ∙ filtered_first line [] (filled_whole line some)

-- ---- the first word of a line, by where it starts and where it ends

abbrev starts_word : ℕ → Bool
starts_word b = not (b == 32)

abbrev stops_word : ℕ → Bool
stops_word b = (b == 32) || (b == 39)

-- the first byte of the rest is no space
first_byte : (line : List ℕ) (start : ℕ) (rest : List ℕ) → position starts_word line ≡ Some start
    → rest ≡ drop start line
    → (words_of line ≡ words_of rest) × (0 < length rest) × ((get_or rest 0 0 == 32) ≡ false)
first_byte line start rest found is =
    let at = position-Some starts_word line start 0 found in
    let there : get_or rest 0 0 ≡ get_or line start 0 =
    ap (λ l. get_or l 0 0) is ∙ get_or-drop start line 0 0
    ∙ ap (λ k. get_or line k 0) (add-zero start) in (
      after_spaces line start at.0 at.2 ∙ ap words_of (sym is),
      omega (arith, ap length is, length-drop start line, at.0),
      not-true (get_or rest 0 0 == 32) (ap starts_word there ∙ at.1),
    )

pub first_last : (line : List ℕ) (start : ℕ) (rest : List ℕ)
    → position starts_word line ≡ Some start → rest ≡ drop start line
    → position stops_word rest ≡ None → words_of line ≡ rest ∷ words_of []
first_last line start rest found is none =
    let first = first_byte line start rest found is in
    first.0 ∙ last_word rest first.1 (position-None stops_word rest 0 none)
    ∙ ap (λ ws. rest ∷ ws) (sym no_words)

pub first_cut : (line : List ℕ) (start : ℕ) (rest : List ℕ) (end : ℕ)
    → position starts_word line ≡ Some start → rest ≡ drop start line
    → position stops_word rest ≡ Some end
    → get_or rest end 0 ≡ 32 → words_of line ≡ take end rest ∷ words_of (drop (suc end) rest)
first_cut line start rest it found is stop space =
    grind (arith, eqb-false, first_byte, position-Some, cut_word, eq-eqb)

pub first_quoted : (line : List ℕ) (start : ℕ) (rest : List ℕ) (end : ℕ)
    → position starts_word line ≡ Some start → rest ≡ drop start line
    → position stops_word rest ≡ Some end
    → get_or rest end 0 ≢ 32 → words_of line ≡ rest ∷ words_of []
first_quoted line start rest end found is stop other =
    grind (arith, first_byte, position-Some, second, ne_eqb, quoted_word, no_words)
