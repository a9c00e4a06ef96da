-- What a name of SELECT or ORDER BY stands for: it is there exactly where a test finds the name.
use Rattle.std.proofs.Common.{◌≡◌, ◌∙◌, cond, ltb, ◌||◌, Bool, true, false, not as negated, if◌then◌else◌, ℕ, suc, ◌+◌, List, [], ◌∷◌, Option, Some, None, length, nat_eq, option_map, arith, refl}
use Rattle.std.{proofs.lemmas.Bool.{le-ltb, lt-ltb, ltb-false, ltb-true}, specs.Cmp.Lexicographic.pointwise, specs.List.{list_any, position, prefix_len}, specs.Option.{is_some, option_or}}
use Rattle.star_schema.specs.declared.group.GroupColumn.TheVariants as group
use Rattle.star_query.specs.Tree.{Name}
use Rattle.star_plan.specs.{Names.has_name, Naming.aggregate_column, Naming.has_text, Naming.key_column, WellNamed.IsThere}

pub is_there : {A : Type 0} (o : Option A) → is_some o ≡ true → IsThere o
is_there None e = absurd (cc)
is_there (Some x) e = (x, refl)

some_if : {A : Type 0} (b : Bool) (x : A) → is_some (cond b (Some x) None) ≡ b
some_if true x = refl
some_if false x = refl

some_mapped : {A B : Type 0} (f : A → B) (o : Option A) → is_some (option_map f o) ≡ is_some o
some_mapped f None = refl
some_mapped f (Some x) = refl

some_either : {A : Type 0} (o q : Option A) → is_some (option_or o q) ≡ (is_some o || is_some q)
some_either None q = refl
some_either (Some x) q = refl

ltb_next : (a b : ℕ) → ltb (1 + a) (suc b) ≡ ltb a b
ltb_next a b = grind (arith, ltb, lt-ltb, ltb-true, le-ltb, ltb-false)

any_within : {X : Type 0} (p : X → Bool) (xs : List X)
    → ltb (prefix_len (λ x. negated (p x)) xs) (length xs) ≡ list_any p xs
any_within p [] = refl
any_within p (x ∷ xs) = grind (arith, any_within p xs, ltb, negated, lt-ltb, ltb_next)

index_sought : {X : Type 0} (p : X → Bool) (xs : List X) → is_some (position p xs) ≡ list_any p xs
index_sought p xs = some_if _ (prefix_len (λ x. negated (p x)) xs) ∙ any_within p xs

pub key_sought : (groups : List Name) (text : List ℕ)
    → is_some (key_column groups text) ≡ has_name groups text
unfolding has_name
key_sought groups text =
    some_mapped (λ index. group.Key index) (position (λ n. pointwise nat_eq n.text text) groups)
    ∙ index_sought (λ n. pointwise nat_eq n.text text) groups

aggregate_sought : (names : List (List ℕ)) (text : List ℕ)
    → is_some (aggregate_column names text) ≡ has_text names text
unfolding has_text
aggregate_sought names text =
    some_mapped (λ index. group.Aggregate index) (position (λ t. pointwise nat_eq t text) names)
    ∙ index_sought (λ t. pointwise nat_eq t text) names

pub order_sought : (groups : List Name) (names : List (List ℕ)) (text : List ℕ)
    → is_some (option_or (key_column groups text) (aggregate_column names text))
    ≡ (has_name groups text || has_text names text)
order_sought groups names text =
    some_either (key_column groups text) (aggregate_column names text)
    ∙ (λ i. key_sought groups text i || aggregate_sought names text i)

-- ---- the fault of a name that isn't found

pub found_reported : {A F : Type 0} (o : Option A) (b : Bool) (x : A) (fault : F) → is_some o ≡ b
    → Some x ≡ o → None ≡ (if b then None else Some fault)
found_reported o true x fault e is = refl
found_reported o false x fault e is = absurd (let wrong = rw (← is) at e in cc)

pub missing_reported : {A F : Type 0} (o : Option A) (b : Bool) (fault : F) → is_some o ≡ b
    → None ≡ o → Some fault ≡ (if b then None else Some fault)
missing_reported o true fault e is = absurd (let wrong = rw (← is) at e in cc)
missing_reported o false fault e is = refl
