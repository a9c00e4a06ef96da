-- The program of a plain plan.
use Rattle.std.{proofs.Common.{◌≡◌, ◌∙◌, ◌<◌, ◌≤◌, ◌+◌, ℕ, zero, suc, List, [], ◌∷◌, ◌++◌, ap, append_assoc, arith, drop, length, length-append, map, refl, sym, true}, proofs.lemmas.List.{append-nil, drop_all}, specs.List.list_all}
use Rattle.star_schema.specs.{declared.group.GroupColumn.GroupColumn, declared.group.Shape.Shape, declared.group.SortKey.SortKey, declared.column.ColumnId.ColumnId}
use Rattle.star_plan.specs.{Limits.IsPlanWithinLimits, Meaning.Plan, Sound.IsSoundPlan, Sound.is_group_column, Views.column_measure_view, Views.measures_view, Views.plan_view, declared.tree.Aggregate.Aggregate, declared.tree.PlanTree.PlanTree}
use Rattle.star_query.specs.Tree.{Measure}
use Rattle.star_compile_laws.specs.Compiled.{plan_show}
use Rattle.star_merge_laws.{specs.Plain.{columns_at, plain_plan}, proofs.PartialFacts.plain_sound}
use Rattle.star_compile.specs.Private.Shown.{plan_shown}
use Rattle.star_schema.specs.declared.group.GroupColumn.TheVariants as group

-- what is shown of a column doesn't depend on the other columns that are shown
pub shows_same : (p : Plan) (shape : Shape) (items : List GroupColumn) (sorts : List SortKey)
    (columns : List GroupColumn)
    → map (plan_show p) columns ≡ map (plan_show (plan_shown p shape items sorts)) columns
shows_same p shape items sorts [] = refl
shows_same p shape items sorts (group.Key n ∷ columns) =
    ap (λ shows. plan_show p (group.Key n) ∷ shows) (shows_same p shape items sorts columns)
shows_same p shape items sorts (group.Aggregate n ∷ columns) =
    ap (λ shows. plan_show p (group.Aggregate n) ∷ shows) (shows_same p shape items sorts columns)

-- ---- columns one by one

next_column : {X : Type 0} (column : ℕ → GroupColumn) (index : ℕ) (xs : List X) (i : ℕ)
    → i < length xs → columns_at column index (drop i xs)
    ≡ column index ∷ columns_at column (index + 1) (drop (suc i) xs)
next_column column index [] i h = absurd (omega arith)
next_column column index (x ∷ xs) zero h = refl
next_column column index (x ∷ xs) (suc i) h = next_column column index xs i (omega arith)

-- the columns from a position on are still to come
abbrev pub HasColumns : {X : Type 0} → (ℕ → GroupColumn) → List X → ℕ
    → (done whole : List GroupColumn) → Type 0
HasColumns column xs i done whole = done ++ columns_at column i (drop i xs) ≡ whole

next_from : {X : Type 0} (column : ℕ → GroupColumn) (index : ℕ) (xs : List X) (i j : ℕ) → j ≡ suc i
    → i < length xs → columns_at column index (drop i xs)
    ≡ column index ∷ columns_at column (index + 1) (drop j xs)
next_from column index xs i j e within = rw e (next_column column index xs i within)

pub one_column : {X : Type 0} (column : ℕ → GroupColumn) (xs : List X) (i : ℕ)
    (done whole : List GroupColumn) → i < length xs → HasColumns column xs i done whole
    → HasColumns column xs (i + 1) (done ++ column i ∷ []) whole
one_column column xs i done whole within h =
    append_assoc done (column i ∷ []) (columns_at column (i + 1) (drop (i + 1) xs))
    ∙ ap (λ (rest : List GroupColumn). done ++ rest)
    (sym (next_from column i xs i (i + 1) (omega arith) within)) ∙ h

pub all_columns : {X : Type 0} (column : ℕ → GroupColumn) (xs : List X) (i : ℕ)
    (done whole : List GroupColumn) → length xs ≤ i → HasColumns column xs i done whole
    → done ≡ whole
all_columns column xs i done whole past h = let none : drop i xs ≡ [] = drop_all i xs past in
    sym (append-nil done) ∙ rw none at h

pub columns_mapped : {X Y : Type 0} (column : ℕ → GroupColumn) (index : ℕ) (f : X → Y) (xs : List X)
    → columns_at column index (map f xs) ≡ columns_at column index xs
columns_mapped column index f [] = refl
columns_mapped column index f (x ∷ xs) =
    ap (λ columns. column index ∷ columns) (columns_mapped column (index + 1) f xs)

-- ---- limits

count_columns : {X : Type 0} (column : ℕ → GroupColumn) (index : ℕ) (xs : List X)
    → length (columns_at column index xs) ≡ length xs
count_columns column index [] = refl
count_columns column index (x ∷ xs) = ap suc (count_columns column (index + 1) xs)

pub plain_within : (p : Plan) → IsPlanWithinLimits p → IsPlanWithinLimits (plain_plan p)
plain_within p h =
    let keys = count_columns group.Key 0 p.keys in
    let aggregates = count_columns group.Aggregate 0 p.measures in
    let both = length-append (columns_at group.Key 0 p.keys)
    (columns_at group.Aggregate 0 p.measures) in
    let few = h.keys in
    let some = h.measures in
    record {
      joins = h.joins;
      comparisons = h.comparisons;
      keys = h.keys;
      measures = h.measures;
      operands = h.operands;
      items = omega (arith, keys, aggregates, both, few, some);
      sorts = omega arith;
    }

-- ---- columns of groups

count_mapped : {X Y : Type 0} (f : X → Y) (xs : List X) → length (map f xs) ≡ length xs
count_mapped f [] = refl
count_mapped f (x ∷ xs) = ap suc (count_mapped f xs)

abbrev measure_in : Aggregate → Measure ColumnId
measure_in a = column_measure_view a.measure

measures_counted : (tree : PlanTree) → length (measures_view tree.aggregates.items)
    ≡ length tree.aggregates.items
measures_counted tree = count_mapped measure_in tree.aggregates.items

pub measured_columns : (as' : List Aggregate) → columns_at group.Aggregate 0 (measures_view as')
    ≡ columns_at group.Aggregate 0 as'
measured_columns as' = columns_mapped group.Aggregate 0 measure_in as'

pub items_there : (tree : PlanTree) → IsSoundPlan (plan_view tree)
    → list_all (is_group_column (length tree.keys.items) (length tree.aggregates.items))
    tree.items.items ≡ true
items_there tree s = rw (measures_counted tree) at s.items

pub plain_there : (tree : PlanTree) → IsSoundPlan (plan_view tree)
    → list_all (is_group_column (length tree.keys.items) (length tree.aggregates.items))
    (plain_plan (plan_view tree)).items ≡ true
plain_there tree s = let plain = plain_sound (plan_view tree) s in
    rw (measures_counted tree) at plain.items

pub few_keys : (tree : PlanTree) → IsPlanWithinLimits (plan_view tree)
    → (length tree.keys.items ≤ 6) × (length tree.aggregates.items ≤ 8)
few_keys tree h = (h.keys, rw (measures_counted tree) at h.measures)
