-- Numbers as how far they lie above the least.
use Rattle.std.{proofs.Common.{◌≡◌, ℕ, ◌+◌, ◌^◌, ◌<◌, ◌≤◌, ◌≤ℤ◌, ℤ, pos, ◌+ℤ◌, ◌-ℤ◌, List, [], ◌∷◌, ◌++◌, Some, drop, get_or, length, map, set, take, ap, ◌∙◌, sym, arith}, proofs.lemmas.List.{drop_more, length-map, map-append, take_more, take_more_set}, proofs.lemmas.Bool.Decides.nat_tests, proofs.lemmas.Int.ints, proofs.lemmas.Option.slice_get-map, specs.Int.RustNames.unsigned_abs, specs.List.{All, slice_get}, specs.Option.option_map}
use Rattle.star_interval.specs.{declared.Interval.Interval, Interval.range_of, Range.Holds}
use Rattle.star_column.{specs.Width.{bits_of, least_width}, specs.Private.Bounds.AreBounds, specs.Private.Words.{numbers_above, numbers_in, word_bits, IsPacked}, specs.declared.words.Words.Words, proofs.Extremes.all_between}

-- ---- widths
pub width_8 : (n : ℕ) → n < 2 ^ 8 → 8 ≡ least_width n
unfolding least_width
width_8 n h = grind (arith, nat_tests)

pub width_16 : (n : ℕ) → 2 ^ 8 ≤ n → n < 2 ^ 16 → 16 ≡ least_width n
unfolding least_width
width_16 n from below = grind (arith, nat_tests)

pub width_32 : (n : ℕ) → 2 ^ 16 ≤ n → n < 2 ^ 32 → 32 ≡ least_width n
unfolding least_width
width_32 n from below = grind (arith, nat_tests)

pub width_64 : (n : ℕ) → 2 ^ 32 ≤ n → 64 ≡ least_width n
unfolding least_width
width_64 n from = grind (arith, nat_tests)

-- ---- a packed column
pub length-above : (low : ℤ) (ns : List ℕ) → length (numbers_above low ns) ≡ length ns
length-above low ns = length-map ns (λ d. low +ℤ pos d)

pub packed_at : (low : ℤ) (ns : List ℕ) (row d : ℕ) → slice_get ns row ≡ Some d
    → slice_get (numbers_above low ns) row ≡ Some (low +ℤ pos d)
packed_at low ns row d there =
    slice_get-map (λ n. low +ℤ pos n) ns row ∙ ap (option_map (λ n. low +ℤ pos n)) there

pub packed_held : (bounds : Interval) (words : Words) → IsPacked bounds words
    → All (Holds (range_of bounds)) (numbers_above bounds.low (numbers_in words))
packed_held bounds words packed =
    all_between (range_of bounds) (numbers_above bounds.low (numbers_in words))
    packed.bounds_are.low
    packed.bounds_are.high

-- what a column keeps, as its parts were built
pub are_packed : (bounds : Interval) (words : Words) (ns : List ℤ) → length ns < 2 ^ 32
    → AreBounds bounds ns → numbers_above bounds.low (numbers_in words) ≡ ns
    → word_bits words ≡ least_width (unsigned_abs (bounds.high -ℤ bounds.low))
    → IsPacked bounds words
unfolding bits_of
are_packed bounds words ns few are is width =
    record {
      few = omega (arith, few, ap length is, length-above bounds.low (numbers_in words));
      bounds_are = rw is are;
      width = rw is
          (width
          ∙ (λ i. least_width (unsigned_abs (are.high i -ℤ are.low i))));
    }

-- where the elements from a position on are the same, so is the one there
pub later_one : {S : Type 0} (words old : List S) (i : ℕ) (d : S) → i < length old
    → length words ≡ length old → drop i words ≡ drop i old
    → (get_or words i d ≡ get_or old i d) × (drop (i + 1) words ≡ drop (i + 1) old)
later_one {S} words old i d within long later =
    let both : get_or words i d ∷ drop (i + 1) words ≡ get_or old i d ∷ drop (i + 1) old =
    sym (drop_more words i d (omega (arith, within, long))) ∙ later ∙ drop_more old i d within in
    (ap (λ (xs : List S). get_or xs 0 d) both, ap (drop 1) both)

-- one more number became its difference
pub subtracted : {S : Type 0} (number : S → ℤ) (distance : S → ℕ) (low : ℤ) (words old : List S)
    (i : ℕ) (d w : S) → i < length old → length words ≡ length old
    → numbers_above low (map distance (take i words)) ≡ map number (take i old)
    → low ≤ℤ number (get_or old i d) → distance w ≡ unsigned_abs (number (get_or old i d) -ℤ low)
    → numbers_above low (map distance (take (i + 1) (set words i w)))
    ≡ map number (take (i + 1) old)
subtracted {S} number distance low words old i d w within long so_far above is =
    let one : low +ℤ pos (distance w) ≡ number (get_or old i d) = rw is (omega (arith, ints)) in
    ap (λ (xs : List S). numbers_above low (map distance xs))
    (take_more_set words i w (omega (arith, within, long)))
    ∙ ap (numbers_above low) (map-append distance (take i words) (w ∷ []))
    ∙ map-append (λ n. low +ℤ pos n) (map distance (take i words)) (distance w ∷ [])
    ∙ (λ j. so_far j ++ one j ∷ [])
    ∙ sym (map-append number (take i old) (get_or old i d ∷ []))
    ∙ sym (ap (map number) (take_more old i d within))
