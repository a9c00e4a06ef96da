-- Numbers that add up within 128 bits do so by key list too; few numbers of 64 bits do.
use Rattle.star_group.{proofs.Common.{◌≡◌, ℕ, zero, suc, ◌+◌, ◌*◌, ◌<◌, ◌≤◌, ◌^◌, Bool, true, false, ◌&&◌, ◌||◌, ℤ, pos, negsuc, ◌+ℤ◌, List, [], ◌∷◌, Option, Some, None, length, cond, ap, subst, refl, arith, true≢false, slice_index_or, ltb-true, ints, All-head, All-tail, IsDistinct-head, IsDistinct-tail, list_any, AllByRecursion, IsDistinct, Sum, numbers_for, same_keys, Update, aggregate_at, Group, IsContent, key_lists, put_number, AddUp, HasRoom}, specs.Stores.{above_zero, below_zero}, proofs.ContentByKeys.told, proofs.JoinedParts.{flipped, more, no_two, over, over_more}}
use Rattle.std.specs.Prelude.{All}
use Rattle.star_interval.specs.Range.{is_i64}

-- ---- a measure of numbers that is no more for a sum than for its parts together

-- the measures of the numbers of the puts that pass, added
abbrev weight : (ℤ → ℕ) → (Update → ℤ) → (Update → Bool) → List Update → ℕ
weight size number t [] = 0
weight size number t (u ∷ us) = cond (t u) (size (number u)) 0 + weight size number t us

abbrev size_of : (ℤ → ℕ) → Option ℤ → ℕ
size_of size None = 0
size_of size (Some z) = size z

module _ (size : ℤ → ℕ) (less : (x y : ℤ) → size (x +ℤ y) ≤ size x + size y)
    (number : Update → ℤ) where
  sum_less : (t : Update → Bool) (us : List Update)
      → size_of size (over (λ x y. x +ℤ y) number t us) ≤ weight size number t us
  sum_less t [] = omega arith
  sum_less t (u ∷ us) = grind (arith, ints, sum_less t us, over_more, over, more)

  apart : (a b c : Update → Bool) (us : List Update) → ((u : Update) → c u ≡ (a u || b u))
      → ((u : Update) → (a u && b u) ≡ false)
      → weight size number c us ≡ weight size number a us + weight size number b us
  apart a b c [] either no_both = refl
  apart a b c (u ∷ us) either no_both = grind (arith, apart a b c us either no_both, true≢false)

  at_most : (t : Update → Bool) (us : List Update)
      → weight size number t us ≤ weight size number (λ u. true) us
  at_most t [] = omega arith
  at_most t (u ∷ us) = grind (arith, at_most t us)

  -- entries that have the sums of their key lists
  by_key_lists : (us es : List Update) → IsDistinct same_keys (key_lists es)
      → AllByRecursion (λ e. over (λ x y. x +ℤ y) number (λ u. same_keys e.keys u.keys) us
      ≡ Some (number e)) es
      → weight size number (λ e. true) es
      ≤ weight size number (λ u. list_any (same_keys u.keys) (key_lists es)) us
  by_key_lists us [] once each = omega arith
  by_key_lists us (e ∷ es) once each =
      let first = IsDistinct-head same_keys e.keys (key_lists es) once in
      let here = subst (λ r. size_of size r ≤ weight size number (λ u. same_keys e.keys u.keys) us)
      each.0 (sum_less (λ u. same_keys e.keys u.keys) us) in
      let rest = by_key_lists us es (IsDistinct-tail same_keys e.keys (key_lists es) once) each.1 in
      let parts = apart (λ u. same_keys e.keys u.keys)
      (λ u. list_any (same_keys u.keys) (key_lists es))
      (λ u. list_any (same_keys u.keys) (key_lists (e ∷ es))) us
      (λ u. flipped e.keys (key_lists es) first u.keys)
      (λ u. no_two e.keys (key_lists es) first u.keys) in
      omega (arith, here, rest, parts)

  pub entries_less : (us es : List Update) → IsDistinct same_keys (key_lists es)
      → AllByRecursion (λ e. over (λ x y. x +ℤ y) number (λ u. same_keys e.keys u.keys) us
      ≡ Some (number e)) es → weight size number (λ e. true) es ≤ weight size number (λ u. true) us
  entries_less us es once each = grind (arith, ints, by_key_lists, at_most, same_keys)

-- ---- above zero, and below

abbrev above : ℤ → ℕ
above (pos n) = n
above (negsuc n) = 0

abbrev below : ℤ → ℕ
below (pos n) = 0
below (negsuc n) = n + 1

above_sum : (x y s : ℤ) → s ≡ x +ℤ y → above s ≤ above x + above y
above_sum x y it e = grind (arith, ints)

below_sum : (x y s : ℤ) → s ≡ x +ℤ y → below s ≤ below x + below y
below_sum x y it e = grind (arith, ints)

abbrev AreSides : List ℤ → ℕ → ℕ → Type 0
AreSides zs up down = (above_zero zs ≡ up) × (below_zero zs ≡ down)

one_more : (z : ℤ) (zs : List ℤ) (up down : ℕ) → AreSides zs up down
    → AreSides (z ∷ zs) (above z + up) (below z + down)
unfolding above_zero below_zero
one_more (pos n) zs up down e = (ap (λ m. n + m) e.0, omega (arith, e.1))
one_more (negsuc n) zs up down e = (omega (arith, e.0), omega (arith, e.1))

sides : (index : ℕ) (us : List Update)
    → AreSides (numbers_for index us) (weight above (put_number index) (λ u. true) us)
    (weight below (put_number index) (λ u. true) us)
unfolding above_zero below_zero
sides index [] = (refl, refl)
sides index (u ∷ us) = one_more (put_number index u) (numbers_for index us) _ _ (sides index us)

pub small_room : (d : Group) (us : List Update)
    → ((index : ℕ) → index < length d.aggregates → aggregate_at d.aggregates index ≡ Sum
    → AddUp (numbers_for index us)) → length us < 2 ^ 63 → HasRoom d us
small_room d us small few = record { sums = sums; counts = λ index h same. few }
  where
    sums : (es : List Update) → IsContent d us es → (index : ℕ) → index < length d.aggregates
        → aggregate_at d.aggregates index ≡ Sum → AddUp (numbers_for index es)
    sums es is index h same =
        let each = told d us es is index h Sum same in
        let up = small index h same in
        record {
          above = omega (
            arith,
            (sides index es).0,
            (sides index us).0,
            up.above,
            entries_less above (λ x y. above_sum x y (x +ℤ y) refl) (put_number index) us es
                is.once each,
          );
          below = omega (
            arith,
            (sides index es).1,
            (sides index us).1,
            up.below,
            entries_less below (λ x y. below_sum x y (x +ℤ y) refl) (put_number index) us es
                is.once each,
          );
        }

-- ---- few numbers of 64 bits

-- a number of 64 bits adds no more than 2^63 on either side of 0
narrow_sides : (z : ℤ) → is_i64 z ≡ true → (above z ≤ 2 ^ 63) × (below z ≤ 2 ^ 63)
unfolding is_i64
narrow_sides (pos n) h = let l = ltb-true n (2 ^ 63) h in (omega (arith, l), omega arith)
narrow_sides (negsuc n) h = let l = ltb-true n (2 ^ 63) h in (omega arith, omega (arith, l))

narrow_at : (index : ℕ) (vs : List ℤ) → All (λ z. is_i64 z ≡ true) vs
    → is_i64 (slice_index_or vs index (pos 0)) ≡ true
unfolding is_i64
narrow_at index [] all = refl
narrow_at zero (v ∷ vs) all = All-head (λ z. is_i64 z ≡ true) v vs all
narrow_at (suc index) (v ∷ vs) all = narrow_at index vs (All-tail (λ z. is_i64 z ≡ true) v vs all)

few_sides : (index : ℕ) (us : List Update) → All (λ u. All (λ z. is_i64 z ≡ true) u.values) us
    → (above_zero (numbers_for index us) ≤ length us * 2 ^ 63)
    × (below_zero (numbers_for index us) ≤ length us * 2 ^ 63)
unfolding above_zero below_zero
few_sides index [] all = (omega arith, omega arith)
few_sides index (u ∷ us) all =
    let here = narrow_sides (put_number index u)
    (narrow_at index u.values
    (All-head (λ (u : Update). All (λ z. is_i64 z ≡ true) u.values) u us all)) in
    let rest = few_sides index us
    (All-tail (λ (u : Update). All (λ z. is_i64 z ≡ true) u.values) u us all) in
    let sides = one_more (put_number index u) (numbers_for index us) _ _ (refl, refl) in
    (omega (arith, here.0, rest.0, sides.0), omega (arith, here.1, rest.1, sides.1))

pub few_room : (d : Group) (us : List Update) → All (λ u. All (λ z. is_i64 z ≡ true) u.values) us
    → length us < 2 ^ 63 → HasRoom d us
few_room d us all few = small_room d us
    (λ index h same. let sides = few_sides index us all in
    record { above = omega (arith, sides.0, few); below = omega (arith, sides.1, few) }) few
