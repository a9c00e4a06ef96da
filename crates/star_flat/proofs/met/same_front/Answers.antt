use Rattle.std.{proofs.Common.{◌≡◌, ◌≤◌, ◌+◌, ◌%◌, ◌^◌, ◌∙◌, ℕ, zero, suc, Bool, List, [], ◌∷◌, ap, ap₂, arith, cond, eqb, inl, inr, length, map, map-id, not, refl, sym, take, w8}, proofs.lemmas.Bool.{cases_Bool, eqb-true}, proofs.lemmas.List.Sums.prefix_len-le-length, proofs.lemmas.List.{length-take-le, take-take}, proofs.lemmas.Simd.{leading_from_mask_l, length-zip2, mask_l-mod, tops_compared, trailing_mask_l}, specs.List.prefix_len}
use lib.Count.{count_trailing_zeros}
use lib.Lanes.{mask_l, top, zip2}
use Rattle.star_flat.proofs.met.same_front.Goals as goal

abbrev differ : ℕ → ℕ → Bool
differ a b = not (eqb a b)

-- bytes agree up to the first lane in which they differ
agree : (xs ys : List ℕ) (n : ℕ) → length xs ≡ length ys
    → n ≤ prefix_len (λ d. not d) (zip2 differ xs ys) → take n xs ≡ take n ys
agree [] [] n long within = refl
agree [] (y ∷ ys) n long within = absurd (omega (arith, long))
agree (x ∷ xs) [] n long within = absurd (omega (arith, long))
agree (x ∷ xs) (y ∷ ys) zero long within = refl
agree (x ∷ xs) (y ∷ ys) (suc n) long within = elim (cases_Bool (eqb x y)) [
  | inl same ↦
      let more : suc n ≤ 1 + prefix_len (λ d. not d) (zip2 differ xs ys) = rw same at within in
      ap₂ (λ b bs. b ∷ bs) (eqb-true x y same)
      (agree xs ys n (omega (arith, long)) (omega (arith, more)))
  | inr other ↦ let none : suc n ≤ 0 = rw other at within in absurd (omega (arith, none))
]

module _ (bytes text : List ℕ) (long : length bytes ≡ 16) (room : 16 ≤ length text) where
  abbrev lanes : List Bool
  lanes = zip2 differ bytes (take 16 text)

  both : length bytes ≡ length (take 16 text)
  both = omega (arith, long, length-take-le 16 text room)

  all : length lanes ≡ 16
  all = length-zip2 differ bytes (take 16 text) both ∙ long

  mask : mask_l (map (top 7) (zip2 (λ a b. cond (differ a b) 255 0) bytes (take 16 text))) % 2 ^ 64
      ≡ mask_l (map (λ d. d) lanes)
  mask = ap (λ ms. mask_l ms % 2 ^ 64) (tops_compared w8 differ bytes (take 16 text))
      ∙ mask_l-mod lanes 64 (omega (arith, all))
      ∙ ap mask_l (sym (map-id lanes))

  same : (count : ℕ) → count ≤ prefix_len (λ d. not d) lanes → take count bytes ≡ take count text
  same count within = agree bytes (take 16 text) count both within
      ∙ take-take count 16 text
      (omega (arith, within, all, prefix_len-le-length (λ d. not d) lanes))

pub returns-then-other-eq0 : goal.returns-then-other-eq0
returns-then-other-eq0 c = λ count few.
    let bytes = c.args.bytes.now in
    let text = c.args.text.now in
    let is = mask bytes text c.told-bytes c.requires in
    let none = leading_from_mask_l (λ d. d) (lanes bytes text c.told-bytes c.requires)
    (sym is ∙ c.if-other-eq0.true) in
    same bytes text c.told-bytes c.requires count
    (omega (arith, few, none, all bytes text c.told-bytes c.requires))

pub returns-else-other-eq0 : goal.returns-else-other-eq0
returns-else-other-eq0 c = λ count few.
    let bytes = c.args.bytes.now in
    let text = c.args.text.now in
    let is = mask bytes text c.told-bytes c.requires in
    let first = trailing_mask_l (λ d. d) 64 (lanes bytes text c.told-bytes c.requires)
    (omega (arith, all bytes text c.told-bytes c.requires))
    (omega (arith, c.if-other-eq0.false, is)) in
    same bytes text c.told-bytes c.requires count
    (omega (arith, few, ap (count_trailing_zeros 64) is ∙ first))
