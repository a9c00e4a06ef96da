-- Columns that are lent.
use Rattle.std.{proofs.Common.{◌≡◌, ℕ, ℤ, pos, ◌+◌, ◌+ℤ◌, ◌<◌, List, [], ◌∷◌, ◌++◌, Some, length, get_or, map, set, take, sym, ap, ◌∙◌, arith}, proofs.lemmas.List.{get_or-map, length-map, map-append, take_more, take_more_set}, proofs.lemmas.Int.ints, proofs.lemmas.List.Elements.{All-get_or, All-weaker}, proofs.lemmas.Option.{get_or_from_slice_get, slice_get-get_or, slice_get_within}, proofs.lemmas.Simd.map-map, specs.List.{All, slice_get}}
use Rattle.star_common.proofs.Members.{map_agree}
use Rattle.star_schema.{specs.Bounds.least, specs.Dictionary.{codes_of, dictionary_of, low_in}, proofs.Dictionaries.IsDictionary-dictionary_of, proofs.TextIndexes.low_in-index}
use Rattle.star_interval.specs.Range.{Holds, Range}
use Rattle.star_column.{specs.Private.Codes.AreCodes, specs.Private.Words.numbers_above, proofs.Coded.least-codes_of, proofs.Differences.packed_at}
use Rattle.star_flat.specs.Repeated.{texts_at_indexes}

-- what holds of all values holds of a row's
pub lent_holds : (r : Range) (low : ℤ) (ns : List ℕ) (row d : ℕ)
    → All (Holds r) (numbers_above low ns) → slice_get ns row ≡ Some d → Holds r (low +ℤ pos d)
lent_holds r low ns row d all there =
    let at_row = packed_at low ns row d there in
    let within : row < length (numbers_above low ns) =
    slice_get_within (numbers_above low ns) row (low +ℤ pos d) at_row in
    rw (get_or_from_slice_get (numbers_above low ns) row (low +ℤ pos d) (pos 0) at_row)
    at (All-get_or (Holds r) (numbers_above low ns) row (pos 0) within all)

-- each code is the number of texts below its text
module _ (dictionary : List (List ℕ)) (codes : List ℕ) (are : AreCodes dictionary codes) where
  zero_more : (n : ℕ) → pos 0 +ℤ pos n ≡ pos n
  zero_more n = omega (arith, ints)

  same : (n : ℕ) → n < length dictionary → pos 0 +ℤ pos n
      ≡ pos (low_in (dictionary_of (texts_at_indexes dictionary codes)) (get_or dictionary n []))
  same n within =
      let ds = dictionary_of (texts_at_indexes dictionary codes) in
      let there : slice_get ds n ≡ Some (get_or dictionary n []) =
      ap (λ xs. slice_get xs n) (sym are.dictionary_is)
      ∙ slice_get-get_or dictionary n [] within in
      zero_more n
      ∙ ap pos (sym (low_in-index ds
      (IsDictionary-dictionary_of (texts_at_indexes dictionary codes)).sorted n
      (get_or dictionary n [])
      there))

  same_codes : numbers_above (pos 0) codes ≡ codes_of (texts_at_indexes dictionary codes)
  same_codes =
      let texts = texts_at_indexes dictionary codes in
      map_agree (λ n. pos 0 +ℤ pos n)
      (λ n. pos (low_in (dictionary_of texts) (get_or dictionary n []))) codes
      (All-weaker (λ n. n < length dictionary)
      (λ n. pos 0 +ℤ pos n ≡ pos (low_in (dictionary_of texts) (get_or dictionary n []))) same codes
      are.within)
      ∙ sym (map-map (λ text. pos (low_in (dictionary_of texts) text))
      (λ n. get_or dictionary n []) codes)

  pub above_codes : (low : ℤ) (texts : List (List ℕ)) → low ≡ least (codes_of texts)
      → texts_at_indexes dictionary codes ≡ texts → numbers_above low codes ≡ codes_of texts
  above_codes low texts low_is texts_are =
      let zero : low ≡ pos 0 = low_is ∙ sym (least-codes_of texts) in
      rw (zero, ← texts_are) same_codes

-- ---- the numbers of words

-- the number of a word stands where the word does
pub number_there : {W : Type 0} (number : W → ℕ) (words : List W) (index : ℕ) (word : W)
    → index < length words → word ≡ get_or words index word
    → slice_get (map number words) index ≡ Some (number word)
number_there number words index word within is =
    slice_get-get_or (map number words) index 0
    (omega (arith, within, length-map words number))
    ∙ ap Some (get_or-map number words index word 0 within ∙ ap number (sym is))

-- one more is written behind those of the positions before
pub one_gathered : {A : Type 0} (f : ℕ → A) (indexes : List ℕ) (into : List A) (at : ℕ) (z : A)
    → at < length indexes → length into ≡ length indexes → take at into ≡ map f (take at indexes)
    → z ≡ f (get_or indexes at 0) → take (at + 1) (set into at z) ≡ map f (take (at + 1) indexes)
one_gathered {A} f indexes into at z within long so_far is =
    take_more_set into at z (omega (arith, within, long))
    ∙ (λ i. so_far i ++ is i ∷ [])
    ∙ sym (map-append f (take at indexes) (get_or indexes at 0 ∷ []))
    ∙ sym (ap (map f) (take_more indexes at 0 within))
