-- The product of some tables: in which order they stand, and what joins leave of it.
use Rattle.std.{proofs.Common.{◌≡◌, ◌∙◌, Bool, true, false, true≢false, ◌&&◌, ◌||◌, not, if◌then◌else◌, List, [], ◌∷◌, ◌++◌, Option, Some, None, refl, sym, ap, subst, cond, map, arith}, specs.Prelude.filter, specs.List.{AllByRecursion, flat_map, list_all, list_any}, specs.List.Sorted.IsPermutation, specs.Ordering.is_eq, proofs.lemmas.Bool.{and_parts, or_parts, not-true}, proofs.lemmas.List.Elements.filter-append, proofs.lemmas.List.Sorted.IsPermutation-trans}
use Rattle.star_schema.{specs.declared.table.TableId.TableId, specs.declared.table.TableId.TheVariants.Lineorder, specs.Order.value_cmp, specs.Schema.{is_table, key_of, references, table_of}, proofs.KeyColumns.foreign_key, proofs.Same.{table_same, table_itself}}
use Rattle.star_plan.specs.{declared.tree.Join.Join, Joins.{is_foreign, is_lone_key, refers}, Sound.are_distinct, Meaning.{Joined, Row, Tables, joined_rows, matches, only_row, partners, joined_value, with_row}}
use Rattle.star_query_meaning.{specs.Rows.{product, with_choices}, proofs.Reorderings.{crossed, each_reordered, reordered}}

-- ---- tables

pub table_turned : (s t : TableId) → is_table s t ≡ false → is_table t s ≡ false
table_turned s t e = grind (arith, true≢false, table_itself, table_same)

-- the table is among these
abbrev pub is_among : TableId → List TableId → Bool
is_among t tables = list_any (is_table t) tables

-- no table is there twice
abbrev pub AreApart : List TableId → Type 0
AreApart [] = Unit {0}
AreApart (t ∷ tables) = (is_among t tables ≡ false) × AreApart tables

-- ---- lists

pub every : {X : Type 0} (P Q : X → Type 0) → ((x : X) → P x → Q x) → (xs : List X)
    → AllByRecursion P xs → AllByRecursion Q xs
every P Q f [] all = tt
every P Q f (x ∷ xs) all = (f x all.0, every P Q f xs all.1)

every_both : {X : Type 0} (P : X → Type 0) (xs ys : List X) → AllByRecursion P xs
    → AllByRecursion P ys → AllByRecursion P (xs ++ ys)
every_both P [] ys a b = b
every_both P (x ∷ xs) ys a b = (a.0, every_both P xs ys a.1 b)

every_given : {X Y : Type 0} (P : Y → Type 0) (f : X → List Y) (xs : List X)
    → ((x : X) → AllByRecursion P (f x)) → AllByRecursion P (flat_map f xs)
every_given P f [] h = tt
every_given P f (x ∷ xs) h = every_both P (f x) (flat_map f xs) (h x) (every_given P f xs h)

filter_given : {X Y : Type 0} (p : Y → Bool) (f : X → List Y) (xs : List X)
    → filter p (flat_map f xs) ≡ flat_map (λ x. filter p (f x)) xs
filter_given p f [] = refl
filter_given p f (x ∷ xs) =
    filter-append p (f x) (flat_map f xs) ∙ ap (λ l. filter p (f x) ++ l) (filter_given p f xs)

-- two tests that say the same of each element
filter_same : {X : Type 0} (p q : X → Bool) (xs : List X) → AllByRecursion (λ x. p x ≡ q x) xs
    → filter p xs ≡ filter q xs
filter_same p q [] all = refl
filter_same p q (x ∷ xs) all =
    λ i. cond (all.0 i) (x ∷ filter_same p q xs all.1 i) (filter_same p q xs all.1 i)

-- by two tests, one after the other
pub filter_both : {X : Type 0} (p q : X → Bool) (xs : List X)
    → filter (λ x. p x && q x) xs ≡ filter q (filter p xs)
filter_both p q [] = refl
filter_both p q (x ∷ xs) = grind (arith, filter_both p q xs)

-- a test that first asks a fact of all elements
filter_fact : {X : Type 0} (b : Bool) (q : X → Bool) (xs : List X)
    → filter (λ x. b && q x) xs ≡ cond b (filter q xs) []
filter_fact true q xs = refl
filter_fact false q [] = refl
filter_fact false q (x ∷ xs) = filter_fact false q xs

-- what the elements give that pass a test
given_filtered : {X Y : Type 0} (p : X → Bool) (f : X → List Y) (xs : List X)
    → flat_map (λ x. cond (p x) (f x) []) xs ≡ flat_map f (filter p xs)
given_filtered p f [] = refl
given_filtered p f (x ∷ xs) = grind (arith, given_filtered p f xs)

given_same : {X Y : Type 0} (f g : X → List Y) (xs : List X) → ((x : X) → f x ≡ g x)
    → flat_map f xs ≡ flat_map g xs
given_same f g [] h = refl
given_same f g (x ∷ xs) h = λ i. h x i ++ given_same f g xs h i

-- ---- the order of tables in a product

-- rows of two tables, put beside a row in either order
beside_turned : (row : Joined) (s t : TableId) (a b : Row) → is_table s t ≡ false
    → with_row (with_row row s a) t b ≡ with_row (with_row row t b) s a
beside_turned row s t a b apart = λ i u. at u i
  where
    by : (p q : Bool) (r : Row) → (p ≡ true → q ≡ true → ⊥)
        → (if p then b else (if q then a else r)) ≡ (if q then a else (if p then b else r))
    by true true r h = absurd (h refl refl)
    by true false r h = refl
    by false true r h = refl
    by false false r h = refl

    at : (u : TableId) → (if is_table u t then b else (if is_table u s then a else row u))
        ≡ (if is_table u s then a else (if is_table u t then b else row u))
    at u = by (is_table u t) (is_table u s) (row u)
        (λ p q. true≢false (sym (table_itself s)
        ∙ ap (is_table s) (sym (table_same u s q) ∙ table_same u t p) ∙ apart))

pub ors_turned : (a b c : Bool) → (a || (b || c)) ≡ (b || (a || c))
ors_turned true true c = refl
ors_turned true false c = refl
ors_turned false b c = refl

module _ (ts : Tables) where
  abbrev SameChoices : List TableId → List TableId → Type 0
  SameChoices xs ys = ((t : TableId) → is_among t xs ≡ is_among t ys)
      × (AreApart xs → AreApart ys
      × ((row : Joined) → IsPermutation (with_choices ts xs row) (with_choices ts ys row)))

  choices_same : (xs : List TableId) → SameChoices xs xs
  choices_same xs = grind arith

  choices_again : (xs ys zs : List TableId) → SameChoices xs ys → SameChoices ys zs
      → SameChoices xs zs
  choices_again xs ys zs h k = (
    λ t. h.0 t ∙ k.0 t,
    λ apart. (let a = h.1 apart in let b = k.1 a.0 in (
      b.0,
      λ row. IsPermutation-trans (with_choices ts xs row) (with_choices ts ys row)
          (with_choices ts zs row) (a.1 row) (b.1 row),
    )),
  )

  choices_under : (x : TableId) (xs ys : List TableId) → SameChoices xs ys
      → SameChoices (x ∷ xs) (x ∷ ys)
  choices_under x xs ys h = grind (arith, each_reordered)

  choices_turned : (x y : TableId) (xs : List TableId) → SameChoices (x ∷ y ∷ xs) (y ∷ x ∷ xs)
  choices_turned x y xs = (
    λ t. ors_turned (is_table t x) (is_table t y) (is_among t xs),
    λ apart. (let first = or_parts (is_table x y) (is_among x xs) apart.0 in (
      (λ i. (table_turned x y first.0 i || apart.1.0 i), (first.1, apart.1.1)),
      λ row. (let here : flat_map
          (λ b. flat_map (λ a. with_choices ts xs (with_row (with_row row x a) y b)) (ts x)) (ts y)
          ≡ with_choices ts (y ∷ x ∷ xs) row =
          given_same (λ b. flat_map (λ a. with_choices ts xs (with_row (with_row row x a) y b))
          (ts x)) (λ b. flat_map (λ a. with_choices ts xs (with_row (with_row row y b) x a))
          (ts x)) (ts y)
          (λ b. given_same (λ a. with_choices ts xs (with_row (with_row row x a) y b))
          (λ a. with_choices ts xs (with_row (with_row row y b) x a)) (ts x)
          (λ a. ap (with_choices ts xs) (beside_turned row x y a b first.0))) in
          subst (IsPermutation (with_choices ts (x ∷ y ∷ xs) row)) here
          (crossed (λ a b. with_choices ts xs (with_row (with_row row x a) y b)) (ts x)
          (ts y))),
    )),
  )

  -- the tables in another order give the same rows in another order
  pub product_reordered : (xs ys : List TableId) → AreApart xs → IsPermutation xs ys
      → IsPermutation (product ts xs) (product ts ys)
  product_reordered xs ys apart h =
      ((reordered SameChoices choices_same choices_again choices_under choices_turned xs ys h).1
      apart).1 (λ t. [])

-- ---- what joins leave

-- the row's foreign key is its dimension's key
abbrev pub is_joined_by : Joined → Join → Bool
is_joined_by row j = is_eq (value_cmp (joined_value j.foreign row) (joined_value j.key row))

abbrev pub all_joined : List Join → Joined → Bool
all_joined js row = list_all (is_joined_by row) js

abbrev pub dimensions_of : List Join → List TableId
dimensions_of js = map (λ j. table_of j.key) js

-- each joins lineorder with another table, and no two with the same
abbrev pub IsStar : List Join → Type 0
IsStar [] = Unit {0}
IsStar (j ∷ js) = (table_of j.foreign ≡ Lineorder) × (is_table Lineorder (table_of j.key) ≡ false)
    × (is_among (table_of j.key) (dimensions_of js) ≡ false) × IsStar js

pub no_fact_among : (js : List Join) → IsStar js → is_among Lineorder (dimensions_of js) ≡ false
no_fact_among [] star = refl
no_fact_among (j ∷ js) star = λ i. star.1 i || no_fact_among js star.3 i

pub dimensions_apart : (js : List Join) → IsStar js → AreApart (dimensions_of js)
dimensions_apart [] star = tt
dimensions_apart (j ∷ js) star = (star.2, dimensions_apart js star.3)

-- the rows of other tables are those of the row
abbrev Keeps : List TableId → Joined → Joined → Type 0
Keeps tables row choice = (u : TableId) → is_among u tables ≡ false → choice u ≡ row u

module _ (ts : Tables) where
  choices_keep : (tables : List TableId) (row : Joined)
      → AllByRecursion (Keeps tables row) (with_choices ts tables row)
  choices_keep [] row = ((λ u e. refl), tt)
  choices_keep (t ∷ more) row =
      every_given (Keeps (t ∷ more) row) (λ chosen. with_choices ts more (with_row row t chosen))
      (ts t)
      (λ chosen. every (Keeps more (with_row row t chosen)) (Keeps (t ∷ more) row)
      (λ choice keeps u e. (let parts = or_parts (is_table u t) (is_among u more) e in
      keeps u parts.1 ∙ ap (λ b. if b then chosen else row u) parts.0))
      (with_choices ts more (with_row row t chosen)) (choices_keep more (with_row row t chosen)))

  -- a join asks of each choice what it asks of the row and the dimension's row
  asked : (j : Join) (js : List Join) (row : Joined) (d : Row) (choice : Joined) → IsStar (j ∷ js)
      → Keeps (dimensions_of js) (with_row row (table_of j.key) d) choice
      → is_joined_by choice j ≡ matches row j d
  asked j js row d choice star keeps = grind (arith, no_fact_among, table_itself)

  -- what the joins leave of every choice of the dimensions' rows are the partners of the row
  joined_choices : (js : List Join) → IsStar js → (row : Joined)
      → filter (all_joined js) (with_choices ts (dimensions_of js) row) ≡ partners ts js row
  joined_choices [] star row = refl
  joined_choices (j ∷ js) star row =
      let t = table_of j.key in
      let one : (d : Row) → filter (all_joined (j ∷ js))
      (with_choices ts (dimensions_of js) (with_row row t d))
      ≡ cond (matches row j d) (partners ts js (with_row row t d)) [] =
      (λ d. filter_same (all_joined (j ∷ js)) (λ r. matches row j d && all_joined js r)
      (with_choices ts (dimensions_of js) (with_row row t d))
      (every (Keeps (dimensions_of js) (with_row row t d))
      (λ r. all_joined (j ∷ js) r ≡ (matches row j d && all_joined js r))
      (λ r keeps. ap (λ b. b && all_joined js r) (asked j js row d r star keeps))
      (with_choices ts (dimensions_of js) (with_row row t d))
      (choices_keep (dimensions_of js) (with_row row t d)))
      ∙ filter_fact (matches row j d) (all_joined js)
      (with_choices ts (dimensions_of js) (with_row row t d))
      ∙ ap (λ l. cond (matches row j d) l []) (joined_choices js star.3 (with_row row t d))) in
      filter_given (all_joined (j ∷ js))
      (λ d. with_choices ts (dimensions_of js) (with_row row t d)) (ts t)
      ∙ given_same (λ d. filter (all_joined (j ∷ js))
      (with_choices ts (dimensions_of js) (with_row row t d)))
      (λ d. cond (matches row j d) (partners ts js (with_row row t d)) []) (ts t) one
      ∙ given_filtered (matches row j) (λ d. partners ts js (with_row row t d)) (ts t)

  -- where lineorder stands first, and then the dimensions in the order of the joins, these are the
  -- joined rows, and in their order
  pub joined_product : (js : List Join) → IsStar js
      → filter (all_joined js) (product ts (Lineorder ∷ dimensions_of js)) ≡ joined_rows ts js
  joined_product js star =
      filter_given (all_joined js) (λ l. with_choices ts (dimensions_of js) (only_row Lineorder l))
      (ts Lineorder)
      ∙ given_same (λ l. filter (all_joined js)
      (with_choices ts (dimensions_of js) (only_row Lineorder l)))
      (λ l. partners ts js (only_row Lineorder l)) (ts Lineorder)
      (λ l. joined_choices js star (only_row Lineorder l))

-- ---- the joins of a sound plan

pub refers_to : (o : Option TableId) (t : TableId) → refers o t ≡ true → o ≡ Some t
refers_to None t e = absurd (cc)
refers_to (Some s) t e = ap Some (table_same s t e)

-- lineorder has no lone key
pub no_key_of_fact : (j : Join) → is_foreign j.foreign j.key ≡ true
    → is_table Lineorder (table_of j.key) ≡ false
no_key_of_fact j e = grind (arith, and_parts, table_same)

apart_from : (t : TableId) (js : List Join)
    → list_all (λ q. not (is_table (table_of q.key) t)) js ≡ true
    → is_among t (dimensions_of js) ≡ false
apart_from t [] e = refl
apart_from t (j ∷ js) e =
    let parts = and_parts (not (is_table (table_of j.key) t))
    (list_all (λ q. not (is_table (table_of q.key) t)) js) e in
    λ i. table_turned (table_of j.key) t (not-true (is_table (table_of j.key) t) parts.0) i
    || apart_from t js parts.1 i

pub is_star : (js : List Join) → list_all (λ j. is_foreign j.foreign j.key) js ≡ true
    → are_distinct js ≡ true → IsStar js
is_star [] foreign apart = tt
is_star (j ∷ js) foreign apart =
    let fs = and_parts (is_foreign j.foreign j.key) (list_all (λ j. is_foreign j.foreign j.key) js)
    foreign in
    let ds = and_parts (list_all (λ q. not (is_table (table_of q.key) (table_of j.key))) js)
    (are_distinct js) apart in
    let refers_there = refers_to (references j.foreign) (table_of j.key)
    (and_parts (refers (references j.foreign) (table_of j.key))
    (is_lone_key j.key (key_of (table_of j.key))) fs.0).0 in (
      (foreign_key j.foreign (table_of j.key) refers_there).0.table,
      no_key_of_fact j fs.0,
      apart_from (table_of j.key) js ds.0,
      is_star js fs.1 ds.1,
    )
