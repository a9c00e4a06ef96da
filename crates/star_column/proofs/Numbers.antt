-- The texts of rows, coded by their positions in the dictionary.
use Rattle.std.{proofs.Common.{◌≡◌, ℕ, ◌-◌, ◌^◌, ◌<◌, List, [], Some, length, get_or, sym, ap, ◌∙◌, arith, subst}, proofs.lemmas.List.{get_or_default, length-map}, proofs.lemmas.List.Elements.{All-contains, Contains-get_or}, proofs.lemmas.Option.{get_or_from_slice_get, slice_get-get_or, slice_get-map, slice_get_within}, specs.List.{Contains, slice_get}, specs.List.Sorted.IsStrictlySortedBy, specs.Option.option_map}
use Rattle.star_common.proofs.Members.{contains_mapped, from_contains_map}
use Rattle.star_flat.specs.Repeated.{AreRepeated, texts_at_indexes}
use Rattle.star_schema.{specs.Dictionary.{codes_of, dictionary_of, text_cmp}, proofs.Dictionaries.one_dictionary}
use Rattle.star_column.{specs.Private.Codes.AreCodes, specs.Width.{bits_of, least_width}, proofs.Coded.least_width-codes_of}

-- ---- the codes of all rows
module _ (ds : List (List ℕ)) (ns : List ℕ) (ts : List (List ℕ))
    (same : texts_at_indexes ds ns ≡ ts)
    (numbered : AreRepeated ds ns) where
  -- each of the texts is among the different ones
  all_met : (t : List ℕ) → Contains ts t → Contains ds t
  all_met t h =
      let w = from_contains_map (λ n. get_or ds n []) ns t
      (subst (λ xs. Contains xs t) (sym same) h) in
      subst (λ x. Contains ds x) w.2
      (Contains-get_or ds w.0 [] (All-contains (λ n. n < length ds) ns w.0 numbered.within w.1))

  -- and each of these is one of the texts
  met : (t : List ℕ) → Contains ds t → Contains ts t
  met t h =
      subst (λ xs. Contains xs t) same
      (subst (λ x. Contains (texts_at_indexes ds ns) x) (get_or_default ds h.0 [] t h.1 ∙ h.2)
      (contains_mapped (λ n. get_or ds n []) ns h.0 (numbered.met h.0 h.1)))

-- what a column keeps, as its parts were built
module _ (ds : List (List ℕ)) (ns : List ℕ) (ts : List (List ℕ))
    (same : texts_at_indexes ds ns ≡ ts)
    (numbered : AreRepeated ds ns) (sorted : IsStrictlySortedBy text_cmp ds)
    (few : length ts < 2 ^ 32) where
  -- different texts in order are the dictionary of the texts that they are numbered for
  dictionary_is : ds ≡ dictionary_of ts
  dictionary_is = (one_dictionary ds ts).0 (record {
    sorted = sorted;
    holds = λ t. (met ds ns ts same numbered t, all_met ds ns ts same numbered t);
  })

  module _ (codes : List ℕ) (read : codes ≡ ns) where
    pub coded_column : AreCodes ds codes × (texts_at_indexes ds codes ≡ ts)
    coded_column = rw read (
      record {
        few = let same_length : length ns ≡ length ts =
            sym (length-map ns (λ n. get_or ds n [])) ∙ ap length same in
            omega (arith, same_length, few);
        within = numbered.within;
        dictionary_is = dictionary_is ∙ ap dictionary_of (sym same);
      },
      same,
    )

    pub width_of_column : (width entries : ℕ) → entries ≡ length ds
        → width ≡ least_width (entries - 1) → width ≡ bits_of (codes_of (texts_at_indexes ds codes))
    width_of_column width entries count is =
        is ∙ ap (λ n. least_width (n - 1)) (count ∙ ap length dictionary_is)
        ∙ least_width-codes_of ts ∙ ap (λ xs. bits_of (codes_of xs)) (sym coded_column.1)

-- ---- the code of a row
pub length-texts_at : (dictionary : List (List ℕ)) (codes : List ℕ)
    → length (texts_at_indexes dictionary codes) ≡ length codes
length-texts_at dictionary codes = length-map codes (λ index. get_or dictionary index [])

-- the code of a row is a position in the dictionary
pub code_within : (dictionary : List (List ℕ)) (codes : List ℕ) (row code : ℕ)
    → AreCodes dictionary codes → slice_get codes row ≡ Some code
    → code < length (dictionary_of (texts_at_indexes dictionary codes))
code_within dictionary codes row code h there =
    let inside : row < length codes = slice_get_within codes row code there in
    let within : code < length dictionary =
    rw (get_or_from_slice_get codes row code 0 there) at (h.within row 0 inside) in
    rw (← h.dictionary_is) within

-- and there stands the row's text
pub code_stands : (dictionary : List (List ℕ)) (codes : List ℕ) (row code : ℕ)
    → AreCodes dictionary codes → slice_get codes row ≡ Some code
    → slice_get (dictionary_of (texts_at_indexes dictionary codes)) code
    ≡ slice_get (texts_at_indexes dictionary codes) row
code_stands dictionary codes row code h there =
    let inside : row < length codes = slice_get_within codes row code there in
    let within : code < length dictionary =
    rw (get_or_from_slice_get codes row code 0 there) at (h.within row 0 inside) in
    let text : slice_get (texts_at_indexes dictionary codes) row
    ≡ Some (get_or dictionary code []) =
    slice_get-map (λ index. get_or dictionary index []) codes row
    ∙ ap (option_map (λ index. get_or dictionary index [])) there in
    rw (← h.dictionary_is) (slice_get-get_or dictionary code [] within ∙ sym text)
