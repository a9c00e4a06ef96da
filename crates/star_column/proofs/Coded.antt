-- A column of texts as the column of its codes.
use Rattle.std.{proofs.Common.{◌≡◌, ℕ, ℤ, pos, ◌-◌, ◌-ℤ◌, ◌<◌, ◌≤ℤ◌, List, [], ◌∷◌, Some, length, get_or, refl, sym, ap, ◌∙◌, arith}, proofs.lemmas.Int.ints, proofs.lemmas.List.{get_or-map, length-map}, proofs.lemmas.List.Elements.{All-map, Contains-get_or}, proofs.lemmas.Option.{slice_get-map, slice_get-get_or}, specs.List.{All, Contains, slice_get}, specs.Option.option_map, specs.Int.RustNames.unsigned_abs}
use Rattle.star_schema.{specs.Bounds.{least, greatest}, specs.Dictionary.{dictionary_of, codes_of, low_in}, proofs.Dictionaries.IsDictionary-dictionary_of, proofs.Extremes.{least_is, greatest_is}, proofs.TextIndexes.{code_within, low_in-index}}
use Rattle.star_column.specs.Width.{bits_of, least_width}
use Rattle.star_common.proofs.Members.{contains_here}

module _ (texts : List (List ℕ)) where
  -- the code of a row whose text stands at a position of the dictionary is that position
  pub slice_get-codes_of : (row code : ℕ)
      → slice_get (dictionary_of texts) code ≡ slice_get texts row
      → code < length (dictionary_of texts) → slice_get (codes_of texts) row ≡ Some (pos code)
  slice_get-codes_of row code stands within =
      let ds = dictionary_of texts in
      let there = slice_get-get_or ds code [] within in
      let index = low_in-index ds (IsDictionary-dictionary_of texts).sorted code
      (get_or ds code []) there in
      slice_get-map (λ text. pos (low_in ds text)) texts row
      ∙ ap (option_map (λ text. pos (low_in ds text))) (sym stands ∙ there)
      ∙ ap (λ n. Some (pos n)) index

  -- each position of the dictionary is the code of some row
  code_used : (n : ℕ) → n < length (dictionary_of texts) → Contains (codes_of texts) (pos n)
  code_used n h =
      let ds = dictionary_of texts in
      let made = IsDictionary-dictionary_of texts in
      let d = get_or ds n [] in
      let there = (made.holds d).0 (Contains-get_or ds n [] h) in
      let code : get_or (codes_of texts) there.0 (pos n) ≡ pos n =
      get_or-map (λ text. pos (low_in ds text)) texts there.0 d (pos n) there.1
      ∙ ap (λ text. pos (low_in ds text)) there.2
      ∙ ap pos (low_in-index ds made.sorted n d (slice_get-get_or ds n [] h)) in
      (there.0, rw length-map there.1, code)

  above_codes : (z : ℤ) → ((n : ℕ) → n < length (dictionary_of texts) → pos n ≤ℤ z)
      → All (λ n. n ≤ℤ z) (codes_of texts)
  above_codes z above =
      All-map (λ n. n ≤ℤ z)
      (λ text. pos (low_in (dictionary_of texts) text)) texts
      (λ k d h. above (low_in (dictionary_of texts) (get_or texts k d))
      (code_within texts (get_or texts k d) (Contains-get_or texts k d h)))

pub least-codes_of : (texts : List (List ℕ)) → pos 0 ≡ least (codes_of texts)
unfolding least
least-codes_of [] = refl
least-codes_of (t ∷ ts) =
    let texts = t ∷ ts in
    let some = code_within texts t (contains_here t ts) in
    least_is (codes_of texts) (pos 0)
    (All-map (λ n. pos 0 ≤ℤ n)
    (λ text. pos (low_in (dictionary_of texts) text)) texts (λ k d h. omega (arith, ints)))
    (code_used texts 0 (omega (arith, some)))

pub greatest-codes_of : (texts : List (List ℕ)) → pos (length (dictionary_of texts) - 1)
    ≡ greatest (codes_of texts)
unfolding greatest dictionary_of
greatest-codes_of [] = refl
greatest-codes_of (t ∷ ts) =
    let texts = t ∷ ts in
    let some = code_within texts t (contains_here t ts) in
    greatest_is (codes_of texts) (pos (length (dictionary_of texts) - 1))
    (above_codes texts (pos (length (dictionary_of texts) - 1)) (λ n h. omega (arith, ints)))
    (code_used texts (length (dictionary_of texts) - 1) (omega (arith, some)))

-- codes are packed by how many texts there are
pub least_width-codes_of : (texts : List (List ℕ))
    → least_width (length (dictionary_of texts) - 1) ≡ bits_of (codes_of texts)
unfolding bits_of
least_width-codes_of texts =
    let last = length (dictionary_of texts) - 1 in
    let span : last ≡ unsigned_abs (pos last -ℤ pos 0) = omega (arith, ints) in
    ap least_width span
    ∙ (λ i. least_width (unsigned_abs (greatest-codes_of texts i -ℤ least-codes_of texts i)))
