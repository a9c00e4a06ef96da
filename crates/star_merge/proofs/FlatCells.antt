-- Cells in flat storage, one after another.
use Rattle.std.proofs.{Common.{◌≡◌, ◌∙◌, ◌+◌, ◌<◌, ◌≤◌, ◌++◌, ℕ, suc, zero, ℤ, List, [], ◌∷◌, Some, add-one, ap, arith, get_or, length, refl, slice_get, sym, take}, lemmas.List.{length-append, take_all, take_more}}
use Rattle.star_program.specs.declared.outcome.Cell.{Cell}
use Rattle.star_merge.specs.Private.Flat.{AreFlattened, flat_cell, flat_cells}

-- ---- flattened

none_more : (ns : List ℤ) (ts : List (List ℕ)) (n : ℤ) (t : List ℕ) → length ns ≡ length ts
    → flat_cells (ns ++ n ∷ []) (ts ++ t ∷ []) ≡ flat_cells ns ts ++ flat_cell n t ∷ []
unfolding flat_cells
none_more [] [] n t e = refl
none_more [] (u ∷ ts) n t e = absurd (omega (arith, e))
none_more (m ∷ ns) [] n t e = absurd (omega (arith, e))
none_more (m ∷ ns) (u ∷ ts) n t e =
    ap (λ cells. flat_cell m u ∷ cells) (none_more ns ts n t (omega (arith, e)))

pub flattened_none : (cells : List Cell) (ns : List ℤ) (ts : List (List ℕ)) → ns ≡ [] → ts ≡ []
    → AreFlattened cells ns ts 0
unfolding flat_cells
flattened_none cells ns ts no_numbers no_texts = record {
  within = omega arith;
  lengths = rw (no_numbers, no_texts) refl;
  first = rw no_numbers refl;
}

pub flattened_more : (cells : List Cell) (ns ns' : List ℤ) (ts ts' : List (List ℕ)) (i : ℕ)
    (cell : Cell) (n : ℤ) (t : List ℕ) → AreFlattened cells ns ts i → i < length cells
    → cell ≡ get_or cells i cell → flat_cell n t ≡ cell → ns' ≡ ns ++ n ∷ [] → ts' ≡ ts ++ t ∷ []
    → AreFlattened cells ns' ts' (i + 1)
flattened_more cells ns ns' ts ts' i cell n t so_far less at is numbers texts = record {
  within = omega (arith, less);
  lengths = rw (numbers, texts)
      (omega (arith, length-append ns (n ∷ []), length-append ts (t ∷ []), so_far.lengths));
  first = rw (numbers, texts) (none_more ns ts n t so_far.lengths
      ∙ (λ k. so_far.first k ++ (is ∙ at) k ∷ []) ∙ sym (take_more cells i cell less));
}

-- ---- shown again

cells_length : (ns : List ℤ) (ts : List (List ℕ)) → length ns ≡ length ts
    → length (flat_cells ns ts) ≡ length ns
unfolding flat_cells
cells_length [] ts e = refl
cells_length (n ∷ ns) [] e = absurd (omega (arith, e))
cells_length (n ∷ ns) (t ∷ ts) e = omega (arith, cells_length ns ts (omega (arith, e)))

first_more : (ns : List ℤ) (ts : List (List ℕ)) (i : ℕ) (n : ℤ) (t : List ℕ)
    → slice_get ns i ≡ Some n → slice_get ts i ≡ Some t
    → take (suc i) (flat_cells ns ts) ≡ take i (flat_cells ns ts) ++ flat_cell n t ∷ []
unfolding flat_cells
first_more [] ts i n t a b = cc
first_more (m ∷ ns) [] i n t a b = cc
first_more (m ∷ ns) (u ∷ ts) zero n t a b =
    let number : m ≡ n = cc in
    let text : u ≡ t = cc in
    λ k. flat_cell (number k) (text k) ∷ []
first_more (m ∷ ns) (u ∷ ts) (suc i) n t a b =
    ap (λ cells. flat_cell m u ∷ cells) (first_more ns ts i n t a b)

pub shown_more : (ns : List ℤ) (ts : List (List ℕ)) (cells cells' : List Cell) (i : ℕ) (n : ℤ)
    (t : List ℕ) (cell : Cell) → cells ≡ take i (flat_cells ns ts) → slice_get ns i ≡ Some n
    → slice_get ts i ≡ Some t → cell ≡ flat_cell n t → cells' ≡ cells ++ cell ∷ []
    → cells' ≡ take (i + 1) (flat_cells ns ts)
shown_more ns ts cells cells' i n t cell so_far number text is more =
    more ∙ (λ k. so_far k ++ is k ∷ []) ∙ rw add-one (sym (first_more ns ts i n t number text))

pub shown_all : (ns : List ℤ) (ts : List (List ℕ)) (cells : List Cell) (i : ℕ)
    → length ns ≡ length ts → length ns ≤ i → cells ≡ take i (flat_cells ns ts)
    → cells ≡ flat_cells ns ts
shown_all ns ts cells i same past so_far =
    so_far ∙ take_all i (flat_cells ns ts) (omega (arith, cells_length ns ts same, past))
