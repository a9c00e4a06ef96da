-- Lines that differ only in bytes on which no record hangs: in a field that is too long, or behind
-- too many fields.
use Rattle.std.{proofs.Common.{◌≡◌, ◌⊎◌, ◌+◌, ◌<◌, ◌≤◌, ◌∙◌, ◌==◌, ℕ, zero, suc, List, [], ◌∷◌, ◌++◌, false, Some, None, length, take, refl, sym, ap, inl, inr, arith}, proofs.lemmas.Bool.{cases_Bool, eq-eqb, eqb-true, lt-leb, true≢false}, specs.List.slice_get}
use Rattle.star_common.{specs.First.first_answer, proofs.Firsts.or_none}
use Rattle.star_schema.specs.{declared.column.Kind.Kind, Records.fields_of, Records.is_bar, Records.pieces, Records.with_first, Tables.cells_of, Tables.ends_in_bar, Tables.is_empty_field, Tables.values_of}
use Rattle.star_reader.{specs.Faults.{cell_fault, cells_fault}, specs.Carried.{AreOneRecord, run_from}, proofs.Counts.{right_count, wrong_count}, proofs.Cuts.pieces_some}
use Rattle.star_reader.specs.declared.fault.ReadFault.TheVariants as fault

-- two fields are equal, or both too long, where `n` bytes more stand before each
abbrev AreAlike : ℕ → List ℕ → List ℕ → Type 0
AreAlike n x y = (x ≡ y) ⊎ ((255 < n + length x) × (255 < n + length y))

-- the fields of two lines are alike, the first ones with `n` bytes before them
abbrev Alike : ℕ → List (List ℕ) → List (List ℕ) → Type 0
Alike n [] [] = Unit {0}
Alike n (x ∷ xs) (y ∷ ys) = AreAlike n x y × Alike 0 xs ys
Alike n [] (y ∷ ys) = ⊥
Alike n (x ∷ xs) [] = ⊥

alike_same : (n : ℕ) (xs : List (List ℕ)) → Alike n xs xs
alike_same n [] = tt
alike_same n (x ∷ xs) = (inl refl, alike_same 0 xs)

-- one byte more before the first ones
alike_before : (n b : ℕ) (xs ys : List (List ℕ)) → Alike (n + 1) xs ys
    → Alike n (with_first b xs) (with_first b ys)
alike_before n b [] [] h = (inl refl, tt)
alike_before n b [] (y ∷ ys) h = absurd h
alike_before n b (x ∷ xs) [] h = absurd h
alike_before n b (x ∷ xs) (y ∷ ys) h = (
  elim h.0 [
    | inl same ↦ inl (ap (λ (bs : List ℕ). b ∷ bs) same)
    | inr long ↦ inr (omega (arith, long.0), omega (arith, long.1))
  ],
  h.1,
)

alike_longer : (n b : ℕ) (ps : List (List ℕ)) → (ps ≡ [] → ⊥) → 256 ≤ n
    → Alike n ps (with_first b ps)
alike_longer n b [] some long = absurd (some refl)
alike_longer n b (p ∷ ps) some long =
    (inr (omega (arith, long), omega (arith, long)), alike_same 0 ps)

-- a byte of a field that is too long
pub long_alike : (n : ℕ) (line : List ℕ) (b : ℕ) (more : List ℕ) → is_bar b ≡ false
    → 256 ≤ run_from n line → Alike n (fields_of (line ++ more)) (fields_of (line ++ b ∷ more))
unfolding pieces run_from
long_alike n [] b more other long =
    rw other (alike_longer n b (pieces is_bar more) (pieces_some is_bar more) long)
long_alike n (c ∷ line) b more other long = elim (cases_Bool (is_bar c)) [
  | inl bar ↦ rw bar (inl refl, long_alike 0 line b more other (rw bar at long))
  | inr plain ↦ rw plain
      (alike_before n c (fields_of (line ++ more)) (fields_of (line ++ b ∷ more))
      (long_alike (n + 1) line b more other (rw plain at long)))
]

alike_count : (n : ℕ) (xs ys : List (List ℕ)) → Alike n xs ys → length xs ≡ length ys
alike_count n [] [] h = refl
alike_count n [] (y ∷ ys) h = absurd h
alike_count n (x ∷ xs) [] h = absurd h
alike_count n (x ∷ xs) (y ∷ ys) h = ap suc (alike_count 0 xs ys h.1)

alike_empty : (x y : List ℕ) → AreAlike 0 x y → is_empty_field (Some x) ≡ is_empty_field (Some y)
alike_empty [] [] h = refl
alike_empty (b ∷ x) (c ∷ y) h = refl
alike_empty [] (c ∷ y) h = elim h
    [ inl same ↦ absurd (cc same) | inr long ↦ absurd (omega (arith, long.0)) ]
alike_empty (b ∷ x) [] h = elim h
    [ inl same ↦ absurd (cc same) | inr long ↦ absurd (omega (arith, long.1)) ]

alike_empty_at : (xs ys : List (List ℕ)) (i : ℕ) → Alike 0 xs ys
    → is_empty_field (slice_get xs i) ≡ is_empty_field (slice_get ys i)
alike_empty_at [] [] i h = refl
alike_empty_at [] (y ∷ ys) i h = absurd h
alike_empty_at (x ∷ xs) [] i h = absurd h
alike_empty_at (x ∷ xs) (y ∷ ys) zero h = alike_empty x y h.0
alike_empty_at (x ∷ xs) (y ∷ ys) (suc i) h = alike_empty_at xs ys i h.1

alike_take : (n : ℕ) (xs ys : List (List ℕ)) → Alike 0 xs ys → Alike 0 (take n xs) (take n ys)
alike_take zero xs ys h = tt
alike_take (suc n) [] [] h = tt
alike_take (suc n) [] (y ∷ ys) h = absurd h
alike_take (suc n) (x ∷ xs) [] h = absurd h
alike_take (suc n) (x ∷ xs) (y ∷ ys) h = (h.0, alike_take n xs ys h.1)

alike_bar : (width : ℕ) (xs ys : List (List ℕ)) → Alike 0 xs ys
    → ends_in_bar width xs ≡ ends_in_bar width ys
alike_bar width xs ys h = rw (alike_count 0 xs ys h, alike_empty_at xs ys width h) refl

alike_cells : (width : ℕ) (xs ys : List (List ℕ)) → Alike 0 xs ys
    → Alike 0 (cells_of width xs) (cells_of width ys)
alike_cells width xs ys h = elim (cases_Bool (ends_in_bar width ys)) [
  | inl bar ↦ rw (alike_bar width xs ys h, bar) (alike_take width xs ys h)
  | inr plain ↦ rw (alike_bar width xs ys h, plain) h
]

long_fault : (at_row field : ℕ) (k : Kind) (x : List ℕ) → 255 < length x
    → cell_fault at_row field k x ≡ Some (fault.CellTooLong at_row field)
long_fault at_row field k x long = rw (lt-leb (length x) 255 long) refl

alike_cell : (at_row field : ℕ) (k : Kind) (x y : List ℕ) → AreAlike 0 x y
    → cell_fault at_row field k x ≡ cell_fault at_row field k y
alike_cell at_row field k x y h = elim h [
  | inl same ↦ ap (cell_fault at_row field k) same
  | inr long ↦
      long_fault at_row field k x (omega (arith, long.0))
      ∙ sym (long_fault at_row field k y (omega (arith, long.1)))
]

alike_fault : (at_row from : ℕ) (ks : List Kind) (xs ys : List (List ℕ)) → Alike 0 xs ys
    → cells_fault at_row from ks xs ≡ cells_fault at_row from ks ys
unfolding first_answer
alike_fault at_row from [] [] [] h = refl
alike_fault at_row from [] [] (y ∷ ys) h = absurd h
alike_fault at_row from [] (x ∷ xs) [] h = absurd h
alike_fault at_row from [] (x ∷ xs) (y ∷ ys) h = refl
alike_fault at_row from (k ∷ ks) [] [] h = refl
alike_fault at_row from (k ∷ ks) [] (y ∷ ys) h = absurd h
alike_fault at_row from (k ∷ ks) (x ∷ xs) [] h = absurd h
alike_fault at_row from (k ∷ ks) (x ∷ xs) (y ∷ ys) h =
    rw (alike_cell at_row from k x y h.0, alike_fault at_row (from + 1) ks xs ys h.1) refl

-- cells without a fault are not too long, so alike ones are the same
alike_value : (at_row field : ℕ) (k : Kind) (x y : List ℕ) → AreAlike 0 x y
    → cell_fault at_row field k x ≡ None → x ≡ y
alike_value at_row field k x y h none = elim h [
  | inl same ↦ same
  | inr long ↦
      let some = long_fault at_row field k x (omega (arith, long.0)) in
      let bad : Some (fault.CellTooLong at_row field) ≡ None = sym some ∙ none in
      absurd (cc bad)
]

alike_values : (at_row from : ℕ) (ks : List Kind) (xs ys : List (List ℕ)) → Alike 0 xs ys
    → cells_fault at_row from ks xs ≡ None → values_of ks xs ≡ values_of ks ys
unfolding first_answer
alike_values at_row from [] xs ys h none = refl
alike_values at_row from (k ∷ ks) [] [] h none = refl
alike_values at_row from (k ∷ ks) [] (y ∷ ys) h none = absurd h
alike_values at_row from (k ∷ ks) (x ∷ xs) [] h none = absurd h
alike_values at_row from (k ∷ ks) (x ∷ xs) (y ∷ ys) h none =
    let both = or_none (cell_fault at_row from k x) (cells_fault at_row (from + 1) ks xs) none in
    rw (
      alike_value at_row from k x y h.0 both.0,
      alike_values at_row (from + 1) ks xs ys h.1 both.1,
    ) refl

-- two lines with the wrong number of cells are one record
pub miscounted_both : (ks : List Kind) (a b : List ℕ)
    → (length (cells_of (length ks) (fields_of a)) ≡ length ks → ⊥)
    → (length (cells_of (length ks) (fields_of b)) ≡ length ks → ⊥) → AreOneRecord ks a b
miscounted_both ks a b wrong_a wrong_b = record {
  fault = λ at_row. wrong_count ks at_row (fields_of a) wrong_a
      ∙ sym (wrong_count ks at_row (fields_of b) wrong_b);
  values = λ at_row none.
      let some = wrong_count ks at_row (fields_of a) wrong_a in
      let bad : Some (fault.FieldCount at_row) ≡ None = sym some ∙ none in
      absurd (cc bad);
}

-- lines whose fields are alike are one record
pub alike_record : (ks : List Kind) (a b : List ℕ) → Alike 0 (fields_of a) (fields_of b)
    → AreOneRecord ks a b
alike_record ks a b h =
    let xs : List (List ℕ) = fields_of a in
    let ys : List (List ℕ) = fields_of b in
    let cells = alike_cells (length ks) xs ys h in
    let count = alike_count 0 (cells_of (length ks) xs) (cells_of (length ks) ys) cells in
    elim (cases_Bool (length (cells_of (length ks) ys) == length ks)) [
      | inl same ↦
          let all : length (cells_of (length ks) ys) ≡ length ks = eqb-true _ _ same in
          record {
            fault = λ at_row. right_count ks at_row xs (count ∙ all)
                ∙ alike_fault at_row 1 ks (cells_of (length ks) xs) (cells_of (length ks) ys) cells
                ∙ sym (right_count ks at_row ys all);
            values = λ at_row none. alike_values at_row 1 ks (cells_of (length ks) xs)
                (cells_of (length ks) ys) cells
                (sym (right_count ks at_row xs (count ∙ all)) ∙ none);
          }
      | inr other ↦
          let wrong : (length (cells_of (length ks) ys) ≡ length ks → ⊥) =
          λ all. true≢false (sym (eq-eqb _ _ all) ∙ other) in
          miscounted_both ks a b (λ all. wrong (sym count ∙ all)) wrong
    ]
