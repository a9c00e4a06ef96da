-- Both values of two options, or none.
use Rattle.std.{proofs.Common.{◌≡◌, ◌∙◌, sym, ap, subst, ◌+◌, ◌<◌, ◌≤◌, ◌⊎◌, inl, inr, ℕ, zero, suc, List, [], ◌∷◌, ◌++◌, Option, Some, None, drop, get_or, length, map, option_map, arith, append_assoc, append-nil, refl}, specs.Option.option_or, proofs.lemmas.List.drop_all}
use Rattle.star_schema.specs.declared.column.ColumnId.{ColumnId}
use Rattle.star_query.specs.declared.tree.{Comparison.Comparison, Condition.Condition}
use Rattle.star_plan.specs.{Resolved.option_all, Resolved.option_both, Views.row_condition_view, WellNamed.IsThere}

pub left_there : {A B C : Type 0} (f : A → B → C) (a : Option A) (b : Option B)
    → IsThere (option_both f a b) → IsThere a
left_there f None b there = absurd (let wrong = there.1 in cc)
left_there f (Some a) b there = (a, refl)

pub right_there : {A B C : Type 0} (f : A → B → C) (a : Option A) (b : Option B)
    → IsThere (option_both f a b) → IsThere b
right_there f None b there = absurd (let wrong = there.1 in cc)
right_there f (Some a) None there = absurd (let wrong = there.1 in cc)
right_there f (Some a) (Some b) there = (b, refl)

pub mapped_there : {A B : Type 0} (f : A → B) (o : Option A) → IsThere (option_map f o) → IsThere o
mapped_there f None there = absurd (let wrong = there.1 in cc)
mapped_there f (Some a) there = (a, refl)

pub both_there : {A B C : Type 0} (f : A → B → C) (a : Option A) (b : Option B) (x : A) (y : B)
    (z : C) → Some x ≡ a → Some y ≡ b → z ≡ f x y → Some z ≡ option_both f a b
both_there f None b x y z e g h = cc
both_there f (Some a) None x y z e g h = cc
both_there f (Some a) (Some b) x y z e g h = cc

pub conditions_join : (xs ys : List (Condition (Comparison ColumnId)))
    → map row_condition_view (xs ++ ys) ≡ map row_condition_view xs ++ map row_condition_view ys
conditions_join [] ys = refl
conditions_join (x ∷ xs) ys = ap (λ rest. row_condition_view x ∷ rest) (conditions_join xs ys)

-- ---- what each element gives, or none

drop_here : {X : Type 0} (xs : List X) (i : ℕ) (x : X) → i < length xs → x ≡ get_or xs i x
    → drop i xs ≡ x ∷ drop (i + 1) xs
drop_here [] i x within at = absurd (omega arith)
drop_here (y ∷ ys) zero x within at = ap (λ z. z ∷ ys) (sym at)
drop_here (y ∷ ys) (suc i) x within at = let next : suc i + 1 ≡ suc (i + 1) = omega arith in
    rw next (drop_here ys i x (omega arith) at)

-- the results so far, and those of the elements that are left
abbrev pub with_rest : {B : Type 0} → List B → Option (List B) → Option (List B)
with_rest done rest = option_map (λ ys. done ++ ys) rest

some_with : {B : Type 0} (done : List B) (y : B) (rest : Option (List B))
    → with_rest done (option_both (λ z zs. z ∷ zs) (Some y) rest) ≡ with_rest (done ++ y ∷ []) rest
some_with done y None = refl
some_with done y (Some ys) = ap Some (sym (append_assoc done (y ∷ []) ys))

pub all_there : {X A B : Type 0} (v : X → A) (f : A → Option B) (xs : List X) (i : ℕ) (x : X)
    (done : List B) → i < length xs → x ≡ get_or xs i x
    → with_rest done (option_all f (map v (drop i xs))) ≡ option_all f (map v xs)
    → IsThere (option_all f (map v xs)) → IsThere (f (v x))
all_there v f xs i x done within at so_far there =
    left_there (λ y ys. y ∷ ys) (f (v x)) (option_all f (map v (drop (i + 1) xs)))
    (mapped_there (λ ys. done ++ ys) _
    (subst IsThere (sym (rw (drop_here xs i x within at) at so_far)) there))

pub all_more : {X A B : Type 0} (v : X → A) (f : A → Option B) (xs : List X) (i : ℕ) (x : X)
    (done : List B) (y : B) → i < length xs → x ≡ get_or xs i x
    → with_rest done (option_all f (map v (drop i xs))) ≡ option_all f (map v xs) → Some y ≡ f (v x)
    → with_rest (done ++ y ∷ []) (option_all f (map v (drop (i + 1) xs))) ≡ option_all f (map v xs)
all_more v f xs i x done y within at so_far found =
    sym (some_with done y (option_all f (map v (drop (i + 1) xs))))
    ∙ (rw (drop_here xs i x within at, ← found) at so_far)

pub all_whole : {X A B : Type 0} (v : X → A) (f : A → Option B) (xs : List X) (i : ℕ)
    (done : List B) → length xs ≤ i
    → with_rest done (option_all f (map v (drop i xs))) ≡ option_all f (map v xs)
    → Some done ≡ option_all f (map v xs)
all_whole v f xs i done past so_far =
    ap Some (sym (append-nil done)) ∙ (rw (drop_all i xs past) at so_far)

pub all_first : {A B : Type 0} (f : A → Option B) (xs : List A)
    → with_rest [] (option_all f xs) ≡ option_all f xs
all_first f xs = grind arith

-- ---- what gave an answer

pub record Both {A B C : Type 0} (f : A → B → C) (a : Option A) (b : Option B) (c : C) :
    Type 0 where
  pub left : A
  pub right : B
  pub first : a ≡ Some left
  pub second : b ≡ Some right
  pub made : f left right ≡ c

pub both_gave : {A B C : Type 0} (f : A → B → C) (a : Option A) (b : Option B) (c : C)
    → option_both f a b ≡ Some c → Both f a b c
both_gave f it b c e = grind arith

pub mapped_gave : {A B : Type 0} (f : A → B) (o : Option A) (b : B) → option_map f o ≡ Some b
    → (a : A) × (o ≡ Some a) × (f a ≡ b)
mapped_gave f None b e = absurd (cc)
mapped_gave f (Some a) b e = (a, refl, cc)

-- what each element came to, beside what it gave
pub mapped_all : {A B C : Type 0} (f : A → Option B) (g : A → C) (h : B → C)
    → ((x : A) (y : B) → f x ≡ Some y → g x ≡ h y) → (xs : List A) (ys : List B)
    → option_all f xs ≡ Some ys → map g xs ≡ map h ys
mapped_all f g h same [] ys e = let none : [] ≡ ys = cc in ap (map h) none
mapped_all f g h same (x ∷ xs) ys e =
    let both = both_gave (λ z zs. z ∷ zs) (f x) (option_all f xs) ys e in
    (λ i. same x both.left both.first i ∷ mapped_all f g h same xs both.right both.second i)
    ∙ ap (map h) both.made

pub first_or_second : {A : Type 0} (o q : Option A) (x : A) → option_or o q ≡ Some x
    → (o ≡ Some x) ⊎ (q ≡ Some x)
first_or_second None q x e = inr e
first_or_second (Some y) q x e = inl e
