-- The first field of a text, as a number.
use Rattle.std.{proofs.Common.{◌≡◌, ◌+◌, ◌^◌, ◌<◌, ◌≤◌, ◌∙◌, ℕ, ℤ, List, [], ◌∷◌, ◌&&◌, true, false, Some, None, get_or, length, take, refl, inl, inr, arith}, proofs.lemmas.Bool.{and_from, and_parts, cases_Bool, eqb-true, le-leb}, proofs.lemmas.List.length-take-le, specs.Char.is_ascii_digit, specs.List.list_all, specs.Prelude.{◌==◌, if◌then◌else◌, nat_le}, specs.Str.Parse.{digits_value, starts_with_minus}}
use Rattle.star_common.{specs.Numerals.is_numeral, proofs.NumeralLemmas.{below_power, digit_bounds}}
use Rattle.star_schema.specs.Tables.{is_number, number_of}
use Rattle.star_reader.{specs.Private.Fronts.{IsFront, is_plain}, proofs.Fronts.other_plain}

digit_plain : (b : ℕ) → is_ascii_digit b ≡ true → is_plain b ≡ true
digit_plain b digit =
    other_plain b (λ is. let high = (digit_bounds b digit).1 in omega (arith, high, is))

digits_plain : (ds : List ℕ) → list_all is_ascii_digit ds ≡ true → list_all is_plain ds ≡ true
digits_plain [] h = refl
digits_plain (d ∷ ds) h =
    let parts = and_parts (is_ascii_digit d) (list_all is_ascii_digit ds) h in
    and_from _ _ (digit_plain d parts.0) (digits_plain ds parts.1)

-- a byte that is so far above 48 is a digit
pub written_digit : (b d : ℕ) → d ≤ 9 → d + 48 ≡ b → is_ascii_digit b ≡ true
written_digit b d few is =
    and_from _ _ (le-leb 48 b (omega (arith, is))) (le-leb b 57 (omega (arith, few, is)))

-- some digits and a bar behind them are a first field, which is a numeral
pub bar_front : (text : List ℕ) (count value : ℕ) → 1 ≤ count → count ≤ 18 → count < length text
    → list_all is_ascii_digit (take count text) ≡ true → value ≡ digits_value 10 (take count text)
    → value < 10 ^ count → get_or text count 0 ≡ 124
    → IsFront text count × (is_numeral 18 (take count text) ≡ true)
    × (value ≡ digits_value 10 (take count text)) × (value < 10 ^ 18)
bar_front text count value some few within digits writes small bar =
    let all = length-take-le count text (omega (arith, within)) in (
      record {
        within = omega (arith, within);
        plain = digits_plain (take count text) digits;
        end = inr (within, bar);
      },
      and_from _ _
          (and_from _ _ (le-leb 1 (length (take count text)) (omega (arith, some, all)))
          (le-leb (length (take count text)) 18 (omega (arith, few, all)))) digits,
      writes,
      below_power count 18 value small few,
    )

-- a numeral has no minus
pub numeral_plain : (cell : List ℕ) → is_numeral 18 cell ≡ true → starts_with_minus cell ≡ false
numeral_plain [] h = refl
numeral_plain (b ∷ cell) h =
    let parts : (nat_le 1 (length (b ∷ cell)) && nat_le (length (b ∷ cell)) 18 ≡ true)
    × (list_all is_ascii_digit (b ∷ cell) ≡ true) = and_parts _ _ h in
    let first = and_parts (is_ascii_digit b) (list_all is_ascii_digit cell) parts.1 in
    let low = (digit_bounds b first.0).0 in
    elim (cases_Bool (b == 45)) [
      | inl minus ↦ absurd (omega (arith, low, eqb-true b 45 minus))
      | inr other ↦ other
    ]

-- a cell that writes no number, and one that writes a number
pub no_number : (cell : List ℕ)
    → None ≡ (if is_number cell then Some (number_of cell) else None) → is_number cell ≡ false
no_number cell e = elim (cases_Bool (is_number cell)) [
  | inl some ↦
      let bad : None ≡ Some (number_of cell) = e ∙ rw some refl in
      cc bad
  | inr none ↦ none
]

pub one_number : (cell : List ℕ) (number : ℤ)
    → Some number ≡ (if is_number cell then Some (number_of cell) else None)
    → (is_number cell ≡ true) × (number ≡ number_of cell)
one_number cell number e = elim (cases_Bool (is_number cell)) [
  | inl some ↦
      let same : Some number ≡ Some (number_of cell) = e ∙ rw some refl in
      (some, cc same)
  | inr none ↦
      let bad : Some number ≡ None = e ∙ rw none refl in
      cc bad
]
