-- The rows of all groupings, key by key.
use Rattle.std.{proofs.Common.{◌≡◌, ℕ, zero, suc, ◌+◌, ◌*◌, ◌-◌, ◌^◌, ◌≤◌, ◌<◌, Bool, true, false, List, [], ◌∷◌, Option, Some, None, length, map, refl, ap, ◌∙◌, arith, inl, inr, ⊎_elim}, specs.Prelude.filter, proofs.lemmas.Grind.common_steps}
use Rattle.star_verify.proofs.Common.{AgreeUpTo, Cube, MayHide, Parts, Plain, Rollup, Shape, World, filter-append, group_at, grouping_goes_on, groupings, if◌then◌else◌, ints, is_grouping, is_none, leb-false, lesser, list_all, lists_of, masks, may_hide, may_show, most_report_rows, mul-le-mul_left, mul_assoc, nat_le, rows_behind, rows_of_grouping, rows_of_groupings, rows_of_rest, sum_by, sum_by-append, sum_by-cons, unsigned_abs, width, ℤ, ◌-ℤ◌, ◌≤ℤ◌}

-- ---- the width of a range

pub width_is : (low high : ℤ) → low ≤ℤ high
    → width (record { low = low; high = high }) ≡ unsigned_abs (high -ℤ low) + 1
unfolding width
width_is low high h = grind (arith, ints)

-- ---- numbers past all counts of updates

pub agree_times : (a b n : ℕ) → AgreeUpTo a b → AgreeUpTo (lesser a (2 ^ 64 - 1) * n) (b * n)
agree_times a b zero h = inl (omega arith)
agree_times a b (suc n) h = by (nat_le a (2 ^ 64 - 1)) refl
  where
    more : (m : ℕ) → m ≤ m * suc n
    more m = omega (arith, mul-le-mul_left m (let one : 1 ≤ suc n = omega arith in one))

    by : (le : Bool) → nat_le a (2 ^ 64 - 1) ≡ le
        → AgreeUpTo ((if le then a else 2 ^ 64 - 1) * suc n) (b * suc n)
    by true e = ⊎_elim {C = AgreeUpTo (a * suc n) (b * suc n)}
        (λ same. inl (ap (λ m. m * suc n) same))
        (λ past. inr (omega (arith, past.0, more a), omega (arith, past.1, more b))) h
    by false e =
        let over : 2 ^ 64 - 1 < a = leb-false a (2 ^ 64 - 1) e in
        let b_over : 2 ^ 64 - 1 ≤ b = ⊎_elim {C = 2 ^ 64 - 1 ≤ b}
        (λ same. omega (arith, over, same)) (λ past. past.1) h in
        inr (more (2 ^ 64 - 1), omega (arith, b_over, more b))

pub agree_lesser : (u a b : ℕ) → u ≤ 2 ^ 64 - 1 → AgreeUpTo a b → lesser u a ≡ lesser u b
agree_lesser u a b small h = ⊎_elim {C = lesser u a ≡ lesser u b} (λ same. ap (lesser u) same)
    (λ past. by (nat_le u a) (nat_le u b) refl refl past) h
  where
    by : (p q : Bool) → nat_le u a ≡ p → nat_le u b ≡ q → (2 ^ 64 - 1 ≤ a) × (2 ^ 64 - 1 ≤ b)
        → (if p then u else a) ≡ (if q then u else b)
    by true true e f past = refl
    by true false e f past = absurd (omega (arith, past.1, small, leb-false u b f))
    by false q e f past = absurd (omega (arith, past.0, small, leb-false u a e))

-- ---- sums over what passes

module _ {X : Type 0} where
  sum_mapped : {Y : Type 0} (f : Y → ℕ) (p : Y → Bool) (g : X → Y) (xs : List X)
      → sum_by f (filter p (map g xs)) ≡ sum_by (λ x. f (g x)) (filter (λ x. p (g x)) xs)
  sum_mapped f p g [] = refl
  sum_mapped f p g (x ∷ xs) = grind (arith, common_steps, sum_mapped f p g xs, sum_by-cons)

  sum_agree : (f g : X → ℕ) (p q : X → Bool) → ((x : X) → f x ≡ g x) → ((x : X) → p x ≡ q x)
      → (xs : List X) → sum_by f (filter p xs) ≡ sum_by g (filter q xs)
  sum_agree f g p q same pass xs = λ i. sum_by (λ x. same x i) (filter (λ x. pass x i) xs)

  sum_none : (f : X → ℕ) (p : X → Bool) → ((x : X) → p x ≡ false) → (xs : List X)
      → sum_by f (filter p xs) ≡ 0
  sum_none f p none [] = refl
  sum_none f p none (x ∷ xs) =
      ap (λ (b : Bool). sum_by f (if b then x ∷ filter p xs else filter p xs)) (none x)
      ∙ sum_none f p none xs

-- ---- one key more

-- what is added by the groupings that show a key, and by those that hide it
module _ (u : ℕ) (s : Shape) (has_shown has_hidden : Bool) (lists c : ℕ) (cs : List ℕ) where
  parted : rows_behind u s has_shown has_hidden lists (c ∷ cs)
      ≡ sum_by (λ m. rows_of_rest u has_shown lists (Some c ∷ m))
      (filter (λ m. grouping_goes_on s has_hidden (Some c ∷ m)) (masks cs))
      + sum_by (λ m. rows_of_rest u has_shown lists (None ∷ m))
      (filter (λ m. grouping_goes_on s has_hidden (None ∷ m)) (masks cs))
  parted = grind (arith, masks, filter-append, sum_by-append, sum_mapped)

  shown_rows : (m : List (Option ℕ))
      → rows_of_rest u has_shown lists (Some c ∷ m) ≡ rows_of_rest u true (lists * c) m
  unfolding rows_of_rest
  shown_rows m = grind (arith, lists_of, mul_assoc)

  hidden_rows : (m : List (Option ℕ))
      → rows_of_rest u has_shown lists (None ∷ m) ≡ rows_of_rest u has_shown lists m
  unfolding rows_of_rest
  hidden_rows m = refl

  behind_shown : ((m : List (Option ℕ))
      → grouping_goes_on s has_hidden (Some c ∷ m) ≡ grouping_goes_on s has_hidden m)
      → sum_by (λ m. rows_of_rest u has_shown lists (Some c ∷ m))
      (filter (λ m. grouping_goes_on s has_hidden (Some c ∷ m)) (masks cs))
      ≡ rows_behind u s true has_hidden (lists * c) cs
  behind_shown may = sum_agree _ _ _ _ shown_rows may (masks cs)

  behind_hidden : ((m : List (Option ℕ))
      → grouping_goes_on s has_hidden (None ∷ m) ≡ grouping_goes_on s true m)
      → sum_by (λ m. rows_of_rest u has_shown lists (None ∷ m))
      (filter (λ m. grouping_goes_on s has_hidden (None ∷ m)) (masks cs))
      ≡ rows_behind u s has_shown true lists cs
  behind_hidden may = sum_agree _ _ _ _ hidden_rows may (masks cs)

-- of a plain group each key is shown
plain_more : (u : ℕ) (has_shown : Bool) (lists c : ℕ) (cs : List ℕ)
    → rows_behind u Plain has_shown false lists (c ∷ cs)
    ≡ rows_behind u Plain true false (lists * c) cs
plain_more u has_shown lists c cs = parted u Plain has_shown false lists c cs
    ∙ (λ i. behind_shown u Plain has_shown false lists c cs (λ m. refl) i
    + sum_none (λ m. rows_of_rest u has_shown lists (None ∷ m))
    (λ m. grouping_goes_on Plain false (None ∷ m)) (λ m. refl) (masks cs) i)
    ∙ omega arith

-- of a rollup no key behind one that is hidden
rollup_hidden : (u : ℕ) (has_shown : Bool) (lists c : ℕ) (cs : List ℕ)
    → rows_behind u Rollup has_shown true lists (c ∷ cs)
    ≡ rows_behind u Rollup has_shown true lists cs
rollup_hidden u has_shown lists c cs = parted u Rollup has_shown true lists c cs
    ∙ (λ i. sum_none (λ m. rows_of_rest u has_shown lists (Some c ∷ m))
    (λ m. grouping_goes_on Rollup true (Some c ∷ m)) (λ m. refl) (masks cs) i
    + behind_hidden u Rollup has_shown true lists c cs (λ m. refl) i)
    ∙ omega arith

rollup_more : (u : ℕ) (has_shown : Bool) (lists c : ℕ) (cs : List ℕ)
    → rows_behind u Rollup has_shown false lists (c ∷ cs)
    ≡ rows_behind u Rollup true false (lists * c) cs + rows_behind u Rollup has_shown true lists cs
rollup_more u has_shown lists c cs = parted u Rollup has_shown false lists c cs
    ∙ (λ i. behind_shown u Rollup has_shown false lists c cs (λ m. refl) i
    + behind_hidden u Rollup has_shown false lists c cs (λ m. refl) i)

-- of a cube each key may be both
cube_more : (u : ℕ) (has_shown has_hidden : Bool) (lists c : ℕ) (cs : List ℕ)
    → rows_behind u Cube has_shown has_hidden lists (c ∷ cs)
    ≡ rows_behind u Cube true has_hidden (lists * c) cs + rows_behind u Cube has_shown true lists cs
cube_more u has_shown has_hidden lists c cs = parted u Cube has_shown has_hidden lists c cs
    ∙ (λ i. behind_shown u Cube has_shown has_hidden lists c cs (goes has_hidden) i
    + behind_hidden u Cube has_shown has_hidden lists c cs (goes_hidden has_hidden) i)
  where
    goes : (h : Bool) (m : List (Option ℕ))
        → grouping_goes_on Cube h (Some c ∷ m) ≡ grouping_goes_on Cube h m
    goes true m = refl
    goes false m = refl

    goes_hidden : (h : Bool) (m : List (Option ℕ))
        → grouping_goes_on Cube h (None ∷ m) ≡ grouping_goes_on Cube true m
    goes_hidden true m = refl
    goes_hidden false m = refl

-- of each shape by what the next key may be
pub one_more : (u : ℕ) (s : Shape) (has_shown has_hidden : Bool) (lists c : ℕ) (cs : List ℕ)
    → MayHide s has_hidden → rows_behind u s has_shown has_hidden lists (c ∷ cs)
    ≡ (if may_show s has_hidden then rows_behind u s true has_hidden (lists * c) cs else 0)
    + (if may_hide s then rows_behind u s has_shown true lists cs else 0)
one_more u Plain has_shown false lists c cs may = plain_more u has_shown lists c cs ∙ omega arith
one_more u Plain has_shown true lists c cs may = absurd may
one_more u Rollup has_shown true lists c cs may = rollup_hidden u has_shown lists c cs ∙ omega arith
one_more u Rollup has_shown false lists c cs may = rollup_more u has_shown lists c cs
one_more u Cube has_shown has_hidden lists c cs may = cube_more u has_shown has_hidden lists c cs

-- ---- no key more

pub shown_none : (u lists : ℕ) → rows_of_rest u true lists [] ≡ lesser u lists
unfolding rows_of_rest
shown_none u lists = ap (lesser u) (omega arith)

pub hidden_none : (u lists : ℕ) → rows_of_rest u false lists [] ≡ 1
unfolding rows_of_rest
hidden_none u lists = refl

-- ---- all keys

one_grouping : (u : ℕ) (m : List (Option ℕ)) → rows_of_rest u false 1 m ≡ rows_of_grouping u m
unfolding rows_of_rest rows_of_grouping
one_grouping u m = ap (λ n. if list_all is_none m then 1 else lesser u n) (omega arith)

pub all_rows : (u : ℕ) (s : Shape) (cs : List ℕ)
    → rows_behind u s false false 1 cs ≡ rows_of_groupings s u cs
all_rows u s cs =
    sum_agree _ _ (is_grouping s) (is_grouping s) (one_grouping u) (λ m. refl) (masks cs)

-- of no keys there is one row
pub no_keys : (s : Shape) (u : ℕ) → rows_of_groupings s u [] ≡ 1
unfolding rows_of_grouping
no_keys Plain u = refl
no_keys Cube u = refl
no_keys Rollup u = refl

pub one_row : (w : World) (parts : Parts) → (group_at parts parts.report).keys ≡ []
    → 1 ≡ most_report_rows w parts
one_row w parts none = grind (arith, group_at, no_keys)

pub empty_list : {X : Type 0} (xs : List X) → length xs < 1 → xs ≡ []
empty_list [] h = refl
empty_list (x ∷ xs) h = absurd (omega (arith, h))

-- ---- how many groupings

pub groupings_few : (n : ℕ) → n ≤ 6 → groupings n ≤ 64
unfolding groupings
groupings_few zero h = omega arith
groupings_few (suc zero) h = omega arith
groupings_few (suc (suc zero)) h = omega arith
groupings_few (suc (suc (suc zero))) h = omega arith
groupings_few (suc (suc (suc (suc zero)))) h = omega arith
groupings_few (suc (suc (suc (suc (suc zero))))) h = omega arith
groupings_few (suc (suc (suc (suc (suc (suc zero)))))) h = omega arith
groupings_few (suc (suc (suc (suc (suc (suc (suc n))))))) h = absurd (omega (arith, h))

pub groupings_more : (n : ℕ) → groupings (suc n) ≡ groupings n + groupings n
unfolding groupings
groupings_more n = refl

pub groupings_some : (n : ℕ) → 1 ≤ groupings n
unfolding groupings
groupings_some zero = omega arith
groupings_some (suc n) = omega (arith, groupings_some n)
