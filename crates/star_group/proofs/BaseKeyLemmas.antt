-- How the keys of an update's rows are made.
use Rattle.star_group.{proofs.Common.{RowKey, ◌≡◌, ℕ, zero, suc, ◌+◌, ◌<◌, ◌≤◌, Bool, true, false, not, ◌&&◌, cond, true≢false, List, [], ◌∷◌, ◌++◌, Option, Some, None, take, drop, set, length, get_or, map, ap, sym, ◌∙◌, refl, arith, append_assoc, take-append-drop, AllByRecursion, filter, list_all, options_equiv, laws-law, is_none, is_some, Rollup, is_grouping, drop-cons, take-suc, get_or-append, false_from_ne_true, All-append, All-from_recursion, filter-append, recursion_from_All, map-append, map-set, KeyValue, KeyPart, All, key_view, key_value_view, key_eq}, specs.BaseKeys.{padded, vary}}
use Rattle.std.{proofs.lemmas.Simd.map-map, specs.List.IsDistinct, proofs.lemmas.Grind.common_steps}

pub padded-set : (n : ℕ) (ks : List KeyValue) (i : ℕ) (d : KeyValue) → i < length ks → length ks ≤ n
    → set (padded n (take i ks)) i (Some (get_or ks i d)) ≡ padded n (take (suc i) ks)
unfolding padded
padded-set n [] i d h few = absurd (omega arith)
padded-set zero (k ∷ ks) i d h few = absurd (omega arith)
padded-set (suc n) (k ∷ ks) zero d h few = refl
padded-set (suc n) (k ∷ ks) (suc i) d h few =
    ap (λ s. Some k ∷ s) (padded-set n ks i d (omega arith) (omega arith))

pub length-padded : (n : ℕ) (ks : List KeyValue) → length (padded n ks) ≡ n
unfolding padded
length-padded zero ks = refl
length-padded (suc n) [] = ap suc (length-padded n [])
length-padded (suc n) (k ∷ ks) = ap suc (length-padded n ks)

module _ {A : Type 0} where
  pub one_more : (key : List A) (p : ℕ) (d : A) (s : List A) → p < length key
      → take (suc p) key ++ s ≡ take p key ++ (get_or key p d ∷ s)
  one_more [] p d s h = absurd (omega arith)
  one_more (x ∷ xs) zero d s h = refl
  one_more (x ∷ xs) (suc p) d s h = ap (λ t. x ∷ t) (one_more xs p d s (omega arith))

  pub set_there : (key : List A) (p : ℕ) (y : A) (s : List A) → p < length key
      → set (take (suc p) key ++ s) p y ≡ take p key ++ (y ∷ s)
  set_there [] p y s h = absurd (omega arith)
  set_there (x ∷ xs) zero y s h = refl
  set_there (x ∷ xs) (suc p) y s h = ap (λ t. x ∷ t) (set_there xs p y s (omega arith))

pub vary-start : (key : RowKey) (n : ℕ)
    → map (λ s. take n key ++ s) (vary 0 (drop n key)) ≡ key ∷ []
unfolding vary
vary-start key n = ap (λ k. k ∷ []) (take-append-drop n key)

pub vary-more : (key : RowKey) (p n : ℕ) (xs : List RowKey)
    → p < length key → xs ≡ map (λ s. take (suc p) key ++ s) (vary n (drop (suc p) key))
    → xs ++ map (λ k. set k p None) xs ≡ map (λ s. take p key ++ s) (vary (suc n) (drop p key))
unfolding vary
vary-more key p n xs h e =
    let v : List RowKey = vary n (drop (suc p) key) in
    let x : Option KeyValue = get_or key p None in
    let first : xs ≡ map (λ s. take p key ++ (x ∷ s)) v =
    e ∙ (λ i. map (λ s. one_more key p None s h i) v) in
    let second : map (λ k. set k p None) xs ≡ map (λ s. take p key ++ (None ∷ s)) v =
    ap (map (λ k. set k p None)) e ∙ map-map (λ k. set k p None) (λ s. take (suc p) key ++ s) v
    ∙ (λ i. map (λ s. set_there key p None s h i) v) in
    let left : map (λ s. take p key ++ (x ∷ s)) v
    ≡ map (λ s. take p key ++ s) (map (λ s. x ∷ s) v) =
    sym (map-map (λ s. take p key ++ s) (λ s. x ∷ s) v) in
    let right : map (λ s. take p key ++ (None ∷ s)) v
    ≡ map (λ s. take p key ++ s) (map (λ s. None ∷ s) v) =
    sym (map-map (λ s. take p key ++ s) (λ s. None ∷ s) v) in
    (λ i. (first ∙ left) i ++ (second ∙ right) i)
    ∙ sym (map-append (λ s. take p key ++ s) (map (λ s. x ∷ s) v) (map (λ s. None ∷ s) v))
    ∙ ap (λ k. map (λ s. take p key ++ s) (vary (suc n) k)) (sym (drop-cons key p None h))

pub all_padded : padded 6 [] ≡ None ∷ None ∷ None ∷ None ∷ None ∷ None ∷ []
unfolding padded
all_padded = refl

-- ---- keys of rows

-- one key more, with ALL at a position, where it passes
pub next_hidden : (P : List KeyPart → Bool) (p i : ℕ) (xs now : List (List KeyPart))
    (d : List KeyPart) → i < length xs
    → now ≡ xs ++ filter P (map (λ key. set key p All) (take i xs))
    → now ++ filter P (set (get_or now i d) p All ∷ [])
    ≡ xs ++ filter P (map (λ key. set key p All) (take (i + 1) xs))
next_hidden it p i xs now d h e =
    grind (arith, common_steps, get_or-append, append_assoc, filter-append, map-append, take-suc)

module _ (G : RowKey → Bool) (p : ℕ) where
  hidden_keys : (xs : List (List KeyPart))
      → map key_view (filter (λ key. G (key_view key)) (map (λ key. set key p All) xs))
      ≡ filter G (map (λ key. set key p None) (map key_view xs))
  hidden_keys [] = refl
  hidden_keys (x ∷ xs) = grind (arith, hidden_keys xs, map-set)

  pub doubled : (xs ys : List (List KeyPart))
      → ys ≡ xs ++ filter (λ key. G (key_view key)) (map (λ key. set key p All) xs)
      → map key_view ys ≡ map key_view xs
      ++ filter G (map (λ key. set key p None) (map key_view xs))
  doubled xs ys e = ap (map key_view) e ∙ map-append key_view xs _
      ∙ ap (λ zs. map key_view xs ++ zs) (hidden_keys xs)

module _ {A : Type 0} where
  -- what the filter left out, the filter leaves out after this step, too
  pub kept_before : (G : A → Bool) (f : A → A) (xs : List A)
      → AllByRecursion (λ x. G (f x) ≡ true → G x ≡ true) xs
      → filter G (map f xs) ≡ filter G (map f (filter G xs))
  kept_before G f [] h = refl
  kept_before G f (x ∷ xs) h = by (G x) refl (kept_before G f xs h.1)
    where
      by : (b : Bool) → G x ≡ b → filter G (map f xs) ≡ filter G (map f (filter G xs))
          → filter G (map f (x ∷ xs)) ≡ filter G (map f (cond b (x ∷ filter G xs) (filter G xs)))
      by true e rest = ap (λ l. cond (G (f x)) (f x ∷ l) l) rest
      by false e rest = ap (λ b. cond b (f x ∷ filter G (map f xs)) (filter G (map f xs)))
          (false_from_ne_true (G (f x)) (λ t. true≢false (sym (h.0 t) ∙ e))) ∙ rest

-- ---- the keys that a rollup shows: those before the first that is hidden

-- whether the keys to come go on with a grouping of a rollup, where one before them is hidden or
-- none is
abbrev pub goes_on : {K : Type 0} → Bool → List (Option K) → Bool
goes_on true ms = list_all is_none ms
goes_on false ms = is_grouping Rollup ms

-- a key more: hidden, or shown where none is hidden before it
shown_more : {K : Type 0} (hides shown : Bool) (m : Option K) (ms : List (Option K))
    → shown ≡ is_some m → (shown ≡ true → hides ≡ false)
    → goes_on (not shown) ms ≡ goes_on hides (m ∷ ms)
shown_more hides it m ms e h = grind (arith, true≢false)

pub part_more : (parts : List KeyPart) (i : ℕ) (d : KeyPart) (hides shown : Bool) → i < length parts
    → shown ≡ is_some (key_value_view (get_or parts i d)) → (shown ≡ true → hides ≡ false)
    → goes_on hides (key_view (drop i parts)) ≡ is_grouping Rollup (key_view parts)
    → goes_on (not shown) (key_view (drop (i + 1) parts)) ≡ is_grouping Rollup (key_view parts)
part_more parts i d hides shown within e h so_far =
    let next : i + 1 ≡ suc i = omega arith in
    let rest : RowKey = key_view (drop (i + 1) parts) in
    let here : key_view (drop i parts) ≡ key_value_view (get_or parts i d) ∷ rest =
    ap key_view (drop-cons parts i d within)
    ∙ ap (λ n. key_value_view (get_or parts i d) ∷ key_view (drop n parts)) (sym next) in
    shown_more hides shown (key_value_view (get_or parts i d)) rest e h
    ∙ sym (ap (goes_on hides) here) ∙ so_far

-- ---- the keys are distinct

all_put : (a : Option KeyValue) (x : RowKey) (ys : List RowKey)
    → AllByRecursion (λ y. key_eq x y ≡ false) ys
    → AllByRecursion (λ y. key_eq (a ∷ x) y ≡ false) (map (λ s. a ∷ s) ys)
all_put a x [] h = tt
all_put a x (y ∷ ys) h =
    (ap (λ b. b && key_eq x y) ((options_equiv laws-law).refl a) ∙ h.0, all_put a x ys h.1)

distinct_put : (a : Option KeyValue) (xs : List RowKey) → IsDistinct key_eq xs
    → IsDistinct key_eq (map (λ s. a ∷ s) xs)
unfolding IsDistinct
distinct_put a [] h = tt
distinct_put a (x ∷ xs) h = (all_put a x xs h.0, distinct_put a xs h.1)

all_apart : (v : KeyValue) (x : RowKey) (ys : List RowKey)
    → AllByRecursion (λ y. key_eq (Some v ∷ x) y ≡ false) (map (λ s. None ∷ s) ys)
all_apart v x [] = tt
all_apart v x (y ∷ ys) = (refl, all_apart v x ys)

-- lists that begin with different cells are apart
distinct_both : (v : KeyValue) (xs ys : List RowKey)
    → IsDistinct key_eq (map (λ s. Some v ∷ s) xs) → IsDistinct key_eq (map (λ s. None ∷ s) ys)
    → IsDistinct key_eq (map (λ s. Some v ∷ s) xs ++ map (λ s. None ∷ s) ys)
unfolding IsDistinct
distinct_both v [] ys h k = k
distinct_both v (x ∷ xs) ys h k = (
  recursion_from_All _ _ (All-append (λ y. key_eq (Some v ∷ x) y ≡ false) _ _
      (All-from_recursion _ _ h.0) (All-from_recursion _ _ (all_apart v x ys))),
  distinct_both v xs ys h.1 k,
)

pub vary_distinct : (m : ℕ) (ks : List KeyValue) → length ks ≤ m
    → IsDistinct key_eq (vary (length ks) (padded m ks))
unfolding vary padded IsDistinct
vary_distinct m [] h = (tt, tt)
vary_distinct zero (k ∷ ks) h = absurd (omega arith)
vary_distinct (suc m) (k ∷ ks) h =
    let rest = vary_distinct m ks (omega arith) in
    distinct_both k (vary (length ks) (padded m ks)) (vary (length ks) (padded m ks))
    (distinct_put (Some k) _ rest) (distinct_put None _ rest)
