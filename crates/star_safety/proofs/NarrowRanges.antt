-- What is known where nothing is refused lies within 2 ^ 63 of zero, each result of it within
-- 2 ^ 126, and so does the sum of fewer than 2 ^ 63 numbers.
use Rattle.std.proofs.{Common.{◌≡◌, ℕ, zero, suc, ◌+◌, ◌*◌, ◌^◌, ◌≤◌, ◌<◌, Bool, true, false, List, [], ◌∷◌, Option, Some, None, refl, arith, FitsSigned, w64}, lemmas.Grind.common_steps, lemmas.Int.ints}
use Rattle.star_safety.proofs.{Common.{Add, Aggregate, AllByRecursion, AllKnown, And, Assign, ColumnId, Context, Count, Equal, FitsI128, FitsI64, Keep, Known, KnownNumber, Less, LessOrEqual, Max, Min, Mul, NamesI64, Op, Operation, Operator, Or, Parts, Put, Range, Read, Share, Sub, Sum, World, after_op, aligned, answer_known, fits_i64, group_at, hull, hull_of, hull_with, is_text, known_number, loaded_known, map, most_of, multiple_range, negsuc, only, overflow_of, pos, put_known, put_share, range_at, range_reason, read_range, result_known, slice_index_or, sum_range, unsigned_abs, widened, with_entry, ℤ, ◌*ℤ◌, ◌+ℤ◌, ◌-ℤ◌}, Instructions.not_refuses_none, Sizes.{Small, small_more, sum_abs, difference_abs, product_abs, fits_small, small_fits, i64_small, only_small, hull_small, corner_small, widened_small, multiple_small}}

-- ---- what is known where nothing is refused

abbrev pub Narrow : Range → Type 0
Narrow r = Small (2 ^ 63) r

-- of a result: of a number its range
abbrev IsNarrow : Known → Type 0
IsNarrow (KnownNumber r reach origin) = Narrow r
IsNarrow _ = Unit {0}

abbrev pub AllNarrow : List Share → Type 0
AllNarrow ss = AllByRecursion (λ s. Narrow s.range) ss

pub record Fits (parts : Parts) (x : Context) : Type 0 where
  pub known : (r : ℕ) → Narrow (range_at (x.known r))
  pub each : (g a : ℕ) → AllNarrow (x.so_far g a)

pub zero_narrow : Narrow (only (pos 0))
zero_narrow = only_small (2 ^ 63) (pos 0) (omega arith)

pub entry_narrow : (known : AllKnown) (t : ℕ) (k : Known) → IsNarrow k
    → ((r : ℕ) → Narrow (range_at (known r))) → (r : ℕ) → Narrow (range_at (with_entry known t k r))
entry_narrow known t k h all r = grind (arith, common_steps, range_at, zero_narrow)

-- a result that isn't refused
result_narrow : (w : World) (k : Known) → overflow_of w k ≡ None → IsNarrow k
result_narrow w k e = grind (arith, common_steps, fits_small, not_refuses_none, fits_i64)

-- what an operation makes, where it isn't refused
made_narrow : (w : World) (parts : Parts) (x : Context) (t : ℕ) (o : Operation)
    → range_reason w parts x (Assign t o) ≡ None → IsNarrow (result_known w parts x (Assign t o))
made_narrow w parts x t (Read g a n) e = fits_small _ (not_refuses_none _ _ e)
made_narrow w parts x t o e = result_narrow w (result_known w parts x (Assign t o)) e

-- ---- a put

-- what is known of the numbers of a put
mapped_narrow : (known : AllKnown) (vs : List ℕ) → ((r : ℕ) → Narrow (range_at (known r)))
    → AllByRecursion (λ k. Narrow (range_at k)) (map known vs)
mapped_narrow known [] all = tt
mapped_narrow known (v ∷ vs) all = (all v, mapped_narrow known vs all)

aligned_narrow : (gs : List Aggregate) (ks : List (Option Known))
    → AllByRecursion (λ k. Narrow (range_at k)) ks
    → AllByRecursion (λ k. Narrow (range_at k)) (aligned (Some (known_number (only (pos 1)))) gs ks)
aligned_narrow [] ks all = tt
aligned_narrow (Count ∷ gs) ks all =
    (only_small (2 ^ 63) (pos 1) (omega arith), aligned_narrow gs ks all)
aligned_narrow (_ ∷ gs) (k ∷ ks) all = (all.0, aligned_narrow gs ks all.1)
aligned_narrow (_ ∷ gs) [] all = tt

at_narrow : (ks : List (Option Known)) (a : ℕ) → AllByRecursion (λ k. Narrow (range_at k)) ks
    → Narrow (range_at (slice_index_or ks a None))
at_narrow [] a all = zero_narrow
at_narrow (k ∷ ks) zero all = all.0
at_narrow (k ∷ ks) (suc a) all = at_narrow ks a all.1

pub share_narrow : (parts : Parts) (x : Context) (g : ℕ) (vs : List ℕ) (a : ℕ) → Fits parts x
    → Narrow (put_share parts x g vs a).range
share_narrow parts x g vs a fits =
    grind (arith, common_steps, at_narrow, put_known, group_at, aligned_narrow, mapped_narrow)

-- ---- what adds up

-- numbers of 64 bits add up to no more than 2 ^ 63 for each of them
pub sum_small : (ss : List Share) → AllNarrow ss → Small (most_of ss * 2 ^ 63) (sum_range ss)
sum_small [] all = only_small 0 (pos 0) (omega arith)
sum_small (s ∷ ss) all =
    corner_small ◌+ℤ◌ (most_of ss * 2 ^ 63) (s.met * 2 ^ 63) ((most_of ss + s.met) * 2 ^ 63) both
    (sum_range ss) (multiple_range s.met (widened s.range)) (sum_small ss all.1)
    (multiple_small s.met (2 ^ 63) (widened s.range) (widened_small (2 ^ 63) s.range all.0))
  where
    both : (x y : ℤ) → unsigned_abs x ≤ most_of ss * 2 ^ 63 → unsigned_abs y ≤ s.met * 2 ^ 63
        → unsigned_abs (x +ℤ y) ≤ (most_of ss + s.met) * 2 ^ 63
    both x y p q = let h = sum_abs x y (x +ℤ y) refl in omega (arith, h, p, q)

-- fewer than 2 ^ 63 of them add up within 128 bits
pub sum_fits : (ss : List Share) → AllNarrow ss → most_of ss < 2 ^ 63 → FitsI128 (sum_range ss)
sum_fits ss all few =
    small_fits (most_of ss * 2 ^ 63) (sum_range ss) (omega (arith, few)) (sum_small ss all)

-- ---- after an instruction

pub after_narrow : (w : World) (parts : Parts) (x : Context) (op : Op) → Fits parts x
    → range_reason w parts x op ≡ None → Fits parts (after_op w parts x op)
after_narrow w parts x (Assign t o) fits e = grind (arith, common_steps, entry_narrow, made_narrow)
after_narrow w parts x (Keep f) fits e = record { known = fits.known; each = fits.each }
after_narrow w parts x (Put g ks vs) fits e = grind (arith, common_steps, put_share, share_narrow)

-- ---- what is refused

abbrev pub Wide : Range → Type 0
Wide r = Small (2 ^ 126) r

abbrev pub IsWide : Known → Type 0
IsWide (KnownNumber r reach origin) = Wide r
IsWide _ = Unit {0}

narrow_wide : (r : Range) → Narrow r → Wide r
narrow_wide r p = small_more (2 ^ 63) (2 ^ 126) r (omega arith) p

sum_wide : (x y : ℤ) → unsigned_abs x ≤ 2 ^ 63 → unsigned_abs y ≤ 2 ^ 63
    → unsigned_abs (x +ℤ y) ≤ 2 ^ 126
sum_wide x y p q = let h = sum_abs x y (x +ℤ y) refl in omega (arith, h, p, q)

difference_wide : (x y : ℤ) → unsigned_abs x ≤ 2 ^ 63 → unsigned_abs y ≤ 2 ^ 63
    → unsigned_abs (x -ℤ y) ≤ 2 ^ 126
difference_wide x y p q = let h = difference_abs x y (x -ℤ y) refl in omega (arith, h, p, q)

product_wide : (x y : ℤ) → unsigned_abs x ≤ 2 ^ 63 → unsigned_abs y ≤ 2 ^ 63
    → unsigned_abs (x *ℤ y) ≤ 2 ^ 126
product_wide x y p q = let h = product_abs (2 ^ 63) (2 ^ 63) x y p q in omega (arith, h)

answer_wide : (o : Operator) (l r : Option Known) → Narrow (range_at l) → Narrow (range_at r)
    → IsWide (answer_known o l r)
answer_wide Add l r p q =
    corner_small ◌+ℤ◌ (2 ^ 63) (2 ^ 63) (2 ^ 126) sum_wide (range_at l) (range_at r) p q
answer_wide Sub l r p q =
    corner_small ◌-ℤ◌ (2 ^ 63) (2 ^ 63) (2 ^ 126) difference_wide (range_at l) (range_at r) p q
answer_wide Mul l r p q =
    corner_small ◌*ℤ◌ (2 ^ 63) (2 ^ 63) (2 ^ 126) product_wide (range_at l) (range_at r) p q
answer_wide Less l r p q = tt
answer_wide LessOrEqual l r p q = tt
answer_wide Equal l r p q = tt
answer_wide And l r p q = tt
answer_wide Or l r p q = tt

named_small : (n : ℤ) → FitsSigned w64 n → unsigned_abs n ≤ 2 ^ 63
named_small (pos n) fits = omega (arith, fits)
named_small (negsuc n) fits = omega (arith, fits)

loaded_wide : (w : World) (c : ColumnId) (b : Bool) → is_text c ≡ b
    → (is_text c ≡ false → FitsI64 (w.bounds c)) → IsWide (loaded_known w c b)
loaded_wide w c true e fits = tt
loaded_wide w c false e fits = narrow_wide (w.bounds c) (i64_small (w.bounds c) (fits e))

-- MIN and MAX over some puts
extreme_narrow : (ss : List Share) (n : ℤ) → AllNarrow ss → unsigned_abs n ≤ 2 ^ 63
    → Narrow (hull_with (hull_of ss) (only n))
extreme_narrow [] n all h = only_small (2 ^ 63) n h
extreme_narrow (s ∷ ss) n all h =
    hull_small (2 ^ 63) (hull_with (hull_of ss) s.range) (only n) (one_more (hull_of ss) s.range
    (numbers ss all.1) all.0) (only_small (2 ^ 63) n h)
  where
    NarrowIf : Option Range → Type 0
    NarrowIf None = Unit {0}
    NarrowIf (Some r) = Narrow r

    one_more : (o : Option Range) (r : Range) → NarrowIf o → Narrow r → Narrow (hull_with o r)
    one_more None r p q = q
    one_more (Some s) r p q = hull_small (2 ^ 63) s r p q

    numbers : (ss : List Share) → AllNarrow ss → NarrowIf (hull_of ss)
    numbers [] all = tt
    numbers (s ∷ ss) all = one_more (hull_of ss) s.range (numbers ss all.1) all.0

read_wide : (g : Aggregate) (ss : List Share) (n : ℤ) → AllNarrow ss
    → most_of ss ≤ 4096 * (1 + 10 ^ 15) → unsigned_abs n ≤ 2 ^ 63 → Wide (read_range g ss (only n))
read_wide Sum ss n all many h = hull_small (2 ^ 126) (sum_range ss) (only n)
    (small_more (most_of ss * 2 ^ 63) (2 ^ 126) (sum_range ss) (omega (arith, many))
    (sum_small ss all)) (only_small (2 ^ 126) n (omega (arith, h)))
read_wide Count ss n all many h =
    grind (arith, common_steps, ints, pos, most_of, narrow_wide, hull, only, hull_small, only_small)
read_wide Min ss n all many h =
    narrow_wide (hull_with (hull_of ss) (only n)) (extreme_narrow ss n all h)
read_wide Max ss n all many h =
    narrow_wide (hull_with (hull_of ss) (only n)) (extreme_narrow ss n all h)

-- how often an instruction is met, and how many numbers were put before
pub record Counts (x : Context) : Type 0 where
  pub met : x.met ≤ 1 + 10 ^ 15
  pub many : (g a : ℕ) → most_of (x.so_far g a) ≤ 4096 * (1 + 10 ^ 15)

pub result_wide : (w : World) (parts : Parts) (x : Context) (t : ℕ) (o : Operation) → Fits parts x
    → Counts x → NamesI64 (Assign t o) → ((c : ColumnId) → is_text c ≡ false → FitsI64 (w.bounds c))
    → IsWide (result_known w parts x (Assign t o))
result_wide w parts x t o fits counts named bounds =
    grind (arith, common_steps, only, only_small, named_small, loaded_wide, answer_wide, read_wide)
