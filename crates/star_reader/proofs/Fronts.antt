-- The first field of what is left of a line.
use Rattle.std.{proofs.Common.{◌≡◌, ◌⊎◌, ◌+◌, ◌-◌, ◌<◌, ◌≤◌, ◌∙◌, ℕ, zero, suc, List, [], ◌∷◌, Bool, true, false, drop, get_or, length, take, refl, sym, ap, inl, inr, arith, length-drop}, proofs.lemmas.Bool.{and_from, and_parts, cases_Bool, eqb-true, le-leb, leb-true, true≢false}, proofs.lemmas.List.{drop-drop, drop_all}, proofs.lemmas.List.Folds.list_all_more, specs.Prelude.{nat_le, not}, specs.List.list_all}
use Rattle.star_schema.specs.Records.{fields_of, is_bar, pieces}
use Rattle.star_reader.specs.Private.Fronts.{IsFront, is_plain, left_of}

-- each of some bytes passes
pub all_at : (p : ℕ → Bool) (text : List ℕ) (n i : ℕ) → list_all p (take n text) ≡ true → i < n
    → n ≤ length text → p (get_or text i 0) ≡ true
all_at p [] n i h below within = absurd (omega arith)
all_at p (b ∷ text) zero i h below within = absurd (omega arith)
all_at p (b ∷ text) (suc n) zero h below within =
    (and_parts (p b) (list_all p (take n text)) h).0
all_at p (b ∷ text) (suc n) (suc i) h below within =
    all_at p text n i (and_parts (p b) (list_all p (take n text)) h).1 (omega arith) (omega arith)

-- one more byte passes
pub one_more : (p : ℕ → Bool) (text : List ℕ) (i : ℕ) → i < length text
    → list_all p (take i text) ≡ true → p (get_or text i 0) ≡ true
    → list_all p (take (i + 1) text) ≡ true
one_more p text i within so_far here =
    list_all_more p text i 0 within ∙ and_from _ _ so_far here

-- what is left behind one more byte
left_cons : (b : ℕ) (text : List ℕ) (n : ℕ) → left_of (b ∷ text) (suc n) ≡ left_of text n
left_cons b text n = elim (cases_Bool (nat_le n (length text))) [
  | inl within ↦
      let below = leb-true n (length text) within in
      let more = le-leb (suc n) (length (b ∷ text)) (omega (arith, below)) in
      rw (within, more) refl
  | inr behind ↦ elim (cases_Bool (nat_le (suc n) (length (b ∷ text)))) [
    | inl more ↦
        let below = leb-true (suc n) (length (b ∷ text)) more in
        let still = le-leb n (length text) (omega (arith, below)) in
        absurd (true≢false (sym still ∙ behind))
    | inr gone ↦ rw (behind, gone) refl
  ]
]

-- the fields of a text whose first field is so long
front_fields : (text : List ℕ) (count : ℕ) → list_all is_plain (take count text) ≡ true
    → count ≤ length text
    → (count ≡ length text) ⊎ ((count < length text) × (get_or text count 0 ≡ 124))
    → fields_of text ≡ take count text ∷ left_of text (count + 1)
unfolding pieces
front_fields [] zero plain within end = refl
front_fields [] (suc count) plain within end = absurd (omega arith)
front_fields (b ∷ text) zero plain within (inl all) = absurd (omega arith)
front_fields (b ∷ text) zero plain within (inr bar) =
    let is : b ≡ 124 = bar.1 in
    let here = le-leb 0 (length text) (omega arith) in
    rw (is, left_cons 124 text 0, here) refl
front_fields (b ∷ text) (suc count) plain within end =
    let parts = and_parts (is_plain b) (list_all is_plain (take count text)) plain in
    let other : is_bar b ≡ false = not_true (is_bar b) parts.0 in
    let rest = front_fields text count parts.1 (omega arith) (elim end [
      | inl all ↦ inl (omega arith)
      | inr bar ↦ inr (omega (arith, bar.0), bar.1)
    ]) in
    let sum : suc count + 1 ≡ suc (count + 1) = omega arith in
    rw (sum, left_cons b text (count + 1), other, rest) refl
  where
    not_true : (b : Bool) → not b ≡ true → b ≡ false
    not_true true h = absurd (true≢false (sym h))
    not_true false h = refl

-- what is left of a line begins with its first field
pub next_left : (line : List ℕ) (at count : ℕ) → at ≤ length line → IsFront (drop at line) count
    → left_of line at ≡ take count (drop at line) ∷ left_of line (at + (count + 1))
next_left line at count within h =
    let here = le-leb at (length line) within in
    let all : length (drop at line) ≡ length line - at = length-drop at line in
    let later : left_of (drop at line) (count + 1) ≡ left_of line (at + (count + 1)) =
    elim (cases_Bool (nat_le (count + 1) (length (drop at line)))) [
      | inl more ↦
          let below = leb-true (count + 1) (length (drop at line)) more in
          let still = le-leb (at + (count + 1)) (length line) (omega (arith, below, all)) in
          rw (more, still, drop-drop (count + 1) at line) refl
      | inr none ↦ elim (cases_Bool (nat_le (at + (count + 1)) (length line))) [
        | inl more ↦
            let below = leb-true (at + (count + 1)) (length line) more in
            let still = le-leb (count + 1) (length (drop at line)) (omega (arith, below, all)) in
            absurd (true≢false (sym still ∙ none))
        | inr gone ↦ rw (none, gone) refl
      ]
    ] in
    rw here (front_fields (drop at line) count h.plain h.within h.end
    ∙ ap (λ (rest : List (List ℕ)). take count (drop at line) ∷ rest) later)

-- nothing is left behind the end
pub none_left : (line : List ℕ) (at : ℕ) → length line < at → left_of line at ≡ []
none_left line at past = elim (cases_Bool (nat_le at (length line))) [
  | inl within ↦ absurd (omega (arith, leb-true at (length line) within))
  | inr behind ↦ rw behind refl
]

-- each text has a first field
pub front_there : (text : List ℕ) → (count : ℕ) × IsFront text count
front_there [] = (0, record { within = omega arith; plain = refl; end = inl refl })
front_there (b ∷ text) = elim (cases_Bool (is_bar b)) [
  | inl bar ↦ (
    0,
    record {
      within = omega arith;
      plain = refl;
      end = inr (omega arith, eqb-true b 124 bar);
    },
  )
  | inr other ↦
      let (count, rest) = front_there text in (
        suc count,
        record {
          within = omega (arith, rest.within);
          plain = rw other rest.plain;
          end = elim rest.end [
            | inl all ↦ inl (omega (arith, all))
            | inr bar ↦ inr (omega (arith, bar.0), bar.1)
          ];
        },
      )
]

-- a byte that is no bar
pub other_plain : (b : ℕ) → (b ≡ 124 → ⊥) → is_plain b ≡ true
other_plain b other =
    elim (cases_Bool (is_bar b))
    [ inl bar ↦ absurd (other (eqb-true b 124 bar)) | inr plain ↦ rw plain refl ]

pub left_within : (line : List ℕ) (at : ℕ) → at < length line
    → left_of line at ≡ fields_of (drop at line)
left_within line at inside = rw (le-leb at (length line) (omega (arith, inside))) refl

-- an empty field is left at the end
pub end_left : (line : List ℕ) (at : ℕ) → length line ≡ at → left_of line at ≡ [] ∷ []
unfolding pieces
end_left line at end =
    let within = le-leb at (length line) (omega (arith, end)) in
    rw (within, drop_all at line (omega (arith, end))) refl

-- all fields are left at the start
pub start_left : (line : List ℕ) → left_of line 0 ≡ fields_of line
start_left line = rw (le-leb 0 (length line) (omega arith)) refl
