-- The groupings of a shape, and what some element of a list that passes a test is.
use Rattle.std.{proofs.Common.{◌≡◌, Bool, true, false, ◌&&◌, ◌||◌, List, [], ◌∷◌, ◌++◌, Option, Some, None, map, cond, ap, sym, refl, true≢false}, specs.List.{filter, list_any, list_all}, specs.Option.is_none}
use Rattle.star_schema.specs.{declared.group.Shape.Shape, declared.group.Shape.TheVariants.Plain, declared.group.Shape.TheVariants.Cube, declared.group.Shape.TheVariants.Rollup, Groups.IsMasked, Groups.is_grouping}

-- of a rollup: where all keys are hidden, they are a grouping
none_shown : {K : Type 0} (ms : List (Option K)) → list_all is_none ms ≡ true
    → is_grouping Rollup ms ≡ true
none_shown [] h = refl
none_shown (None ∷ ms) h = h
none_shown (Some m ∷ ms) h = absurd (true≢false (sym h))

-- where a key can be hidden it can be shown, if those before it are
pub finer : {K : Type 0} (s : Shape) (shown : List K) (k : K) (ms : List (Option K))
    → is_grouping s (map Some shown ++ (None ∷ ms)) ≡ true
    → is_grouping s (map Some shown ++ (Some k ∷ ms)) ≡ true
finer Cube shown k ms h = refl
finer Plain [] k ms h = absurd (true≢false (sym h))
finer Plain (x ∷ shown) k ms h = finer Plain shown k ms h
finer Rollup [] k ms h = none_shown ms h
finer Rollup (x ∷ shown) k ms h = finer Rollup shown k ms h

-- all keys are a grouping
pub all_keys : {K : Type 0} (s : Shape) (ks : List K) → is_grouping s (map Some ks) ≡ true
all_keys Cube ks = refl
all_keys Plain [] = refl
all_keys Plain (k ∷ ks) = all_keys Plain ks
all_keys Rollup [] = refl
all_keys Rollup (k ∷ ks) = all_keys Rollup ks

-- and the only one of plain groups
pub shown_masked : {K : Type 0} (m : List (Option K)) (ks : List K) → is_grouping Plain m ≡ true
    → IsMasked m ks → m ≡ map Some ks
shown_masked [] [] h masked = refl
shown_masked [] (k ∷ ks) h masked = absurd masked
shown_masked (None ∷ m) ks h masked = absurd (true≢false (sym h))
shown_masked (Some x ∷ m) [] h masked = absurd masked
shown_masked (Some x ∷ m) (k ∷ ks) h masked =
    λ i. Some (masked.0 i) ∷ shown_masked m ks h masked.1 i

-- some element of those that pass a test
pub among_passing : {A : Type 0} (p q : A → Bool) (xs : List A)
    → list_any p (filter q xs) ≡ list_any (λ x. q x && p x) xs
among_passing p q [] = refl
among_passing p q (x ∷ xs) = by (q x) (among_passing p q xs)
  where
    by : (b : Bool) → list_any p (filter q xs) ≡ list_any (λ y. q y && p y) xs
        → list_any p (cond b (x ∷ filter q xs) (filter q xs))
        ≡ ((b && p x) || list_any (λ y. q y && p y) xs)
    by true e = ap (λ r. p x || r) e
    by false e = e
