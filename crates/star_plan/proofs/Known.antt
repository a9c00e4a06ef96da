-- The names of a well named query stand for something that is in scope and of the kind that is
-- asked of it.
use Rattle.std.{proofs.Common.{◌≡◌, ◌∙◌, sym, ap, ◌+◌, ℕ, Bool, true, false, ◌&&◌, ◌||◌, if◌then◌else◌, List, [], ◌∷◌, ◌++◌, Option, Some, None, nat_eq, option_map, refl, arith}, specs.Cmp.Lexicographic.{pointwise, same_text}, specs.List.{AllByRecursion, list_all, list_any}, specs.Option.is_none, proofs.lemmas.Bool.and_from, proofs.lemmas.List.Folds.list_all-append}
use Rattle.star_common.{proofs.Firsts.or_none, specs.First.first_answer}
use Rattle.star_schema.{specs.declared.table.TableId.TableId, specs.declared.table.TableId.TheVariants.Lineorder, specs.declared.column.ColumnId.ColumnId, specs.declared.group.GroupColumn.GroupColumn, specs.Tables.kind_of_value, specs.Schema.{is_table, table_name, table_of}, proofs.NamesApart.table_by_name}
use Rattle.star_schema.specs.declared.column.Kind.TheVariants as kind
use Rattle.star_schema.specs.declared.group.GroupColumn.TheVariants as group
use Rattle.star_schema.specs.declared.group.SortKey as sorted
use Rattle.star_query.specs.Tree as tree
use Rattle.star_query.specs.Tree.{Item, Name, Expression, column, constant, add, sub, mul, or, and, not, test, compare, between, Measure, count, fold}
use Rattle.star_plan.{specs.declared.tree.Join.Join, specs.Names.{column_at, has_name, is_of, table_at, table_called}, specs.Uses.{Use, expression_uses, measure_uses, where_uses}, specs.Private.Stages.{condition_uses, groups_uses, items_uses, resolved_measures}, specs.Naming.key_column, specs.WellNamed.{is_grouped, is_in_from, is_reached}, specs.Joins.{Pair, is_joined, joins_of, pairs_of, where_pairs}, proofs.Apart.each, proofs.Sought.{is_there, key_sought}, specs.Faults.{item_fault, use_kind_fault, missing_fault, scope_fault}, specs.Resolved.{conjuncts_of, where_conjuncts, items_from, option_all, option_both, resolved_condition, resolved_expression, resolved_measure}, specs.Sound.{condition_is_sound, expression_is_sound, in_scope, joins_table, measure_is_sound}}

-- the table by its own name
called : (t : TableId) → table_called (table_name t) ≡ Some t
unfolding table_called
called t = table_by_name t

-- ---- no fault at all is no fault of each

pub each_none : {X A : Type 0} (f : X → Option A) (xs : List X) → first_answer f xs ≡ None
    → AllByRecursion (λ x. f x ≡ None) xs
unfolding first_answer
each_none f [] e = tt
each_none f (x ∷ xs) e = let both = or_none (f x) (first_answer f xs) e in
    (both.0, each_none f xs both.1)

pub each_left : {X : Type 0} (P : X → Type 0) (xs ys : List X) → AllByRecursion P (xs ++ ys)
    → AllByRecursion P xs
each_left P [] ys all = tt
each_left P (x ∷ xs) ys all = (all.0, each_left P xs ys all.1)

pub each_right : {X : Type 0} (P : X → Type 0) (xs ys : List X) → AllByRecursion P (xs ++ ys)
    → AllByRecursion P ys
each_right P [] ys all = all
each_right P (x ∷ xs) ys all = each_right P xs ys all.1

-- ---- one name

pub named_of : {A : Type 0} (b : Bool) (x : A) → (if b then None else Some x) ≡ None → b ≡ true
named_of true x e = refl
named_of false x e = absurd (cc)

-- the column is of a table of FROM
abbrev IsNamed : List Name → ColumnId → Type 0
IsNamed tables c = has_name tables (table_name (table_of c)) ≡ true

pub scope_known : {F : Type 0} (tables : List Name) (o : Option ColumnId) (x y : F)
    → (if is_none o then Some x else if is_in_from tables o then None else Some y) ≡ None
    → (c : ColumnId) × (o ≡ Some c) × IsNamed tables c
scope_known tables None x y e = absurd (cc)
scope_known tables (Some c) x y e =
    (c, refl, named_of (has_name tables (table_name (table_of c))) y e)

-- ---- a whole of parts that are known

-- there is something, and it is sound
abbrev Known : {A : Type 0} → (A → Bool) → Option A → Type 0
Known {A} sound o = (x : A) × (o ≡ Some x) × (sound x ≡ true)

both_known : {T : Type 0} (sound : T → Bool) (make : T → T → T)
    → ((y z : T) → sound (make y z) ≡ (sound y && sound z)) → (a b : Option T) → Known sound a
    → Known sound b → Known sound (option_both make a b)
both_known sound make both a b l r =
    (make l.0 r.0, λ i. option_both make (l.1 i) (r.1 i), both l.0 r.0 ∙ and_from _ _ l.2 r.2)

lone_known : {T : Type 0} (sound : T → Bool) (o : Option T) → Known sound o
    → Known (list_all sound) (option_map (λ y. y ∷ []) o)
lone_known sound o k = (k.0 ∷ [], ap (option_map (λ y. y ∷ [])) k.1, and_from _ _ k.2 refl)

-- ---- expressions and conditions

-- in scope, and of the kind that is asked of it
abbrev pub AreGood : List Name → List Use → Type 0
AreGood tables us =
    AllByRecursion (λ u. (scope_fault tables u ≡ None) × (use_kind_fault u ≡ None)) us

-- each comparison of two columns is a join
abbrev AreJoins : List Pair → Type 0
AreJoins ps = AllByRecursion (λ p. (j : Join) × (p.join ≡ Some j)) ps

-- what stands in FROM is in scope
abbrev pub Reaches : List Name → List Join → Type 0
Reaches tables js = (c : ColumnId) → has_name tables (table_name (table_of c)) ≡ true
    → in_scope js (table_of c) ≡ true

module _ (tables : List Name) (js : List Join) (reach : Reaches tables js) where
  expression_known : (e : Expression Name) → AreGood tables (expression_uses e)
      → Known (expression_is_sound js) (resolved_expression e)
  expression_known (tree.column n) good =
      let c = scope_known tables (column_at n) _ _ good.0.0 in
      let k : is_of kind.Number (column_at n) ≡ true = named_of _ _ good.0.1 in
      (column c.0, ap (option_map column) c.1, and_from _ _ (reach c.0 c.2) (rw c.1 at k))
  expression_known (tree.constant z) good = (constant z, refl, refl)
  expression_known (tree.add a b) good =
      both_known (expression_is_sound js) add (λ y z. refl) _ _
      (expression_known a (each_left _ (expression_uses a) (expression_uses b) good))
      (expression_known b (each_right _ (expression_uses a) (expression_uses b) good))
  expression_known (tree.sub a b) good =
      both_known (expression_is_sound js) sub (λ y z. refl) _ _
      (expression_known a (each_left _ (expression_uses a) (expression_uses b) good))
      (expression_known b (each_right _ (expression_uses a) (expression_uses b) good))
  expression_known (tree.mul a b) good =
      both_known (expression_is_sound js) mul (λ y z. refl) _ _
      (expression_known a (each_left _ (expression_uses a) (expression_uses b) good))
      (expression_known b (each_right _ (expression_uses a) (expression_uses b) good))

  measure_known : (m : tree.Measure tree.Name) → AreGood tables (measure_uses m)
      → Known (measure_is_sound js) (resolved_measure m)
  measure_known tree.count good = (count, refl, refl)
  measure_known (tree.fold f e) good =
      let x = expression_known e good in (fold f x.0, ap (option_map (fold f)) x.1, x.2)

  pub measures_known : (is' : List Item) → AreGood tables (items_uses is')
      → Known (list_all (measure_is_sound js)) (resolved_measures is')
  measures_known [] good = ([], refl, refl)
  measures_known (tree.plain n ∷ is') good = measures_known is' good.1
  measures_known (tree.aggregate a ∷ is') good =
      let m = measure_known a.measure
      (each_left _ (measure_uses a.measure) (items_uses is') good) in
      let ms = measures_known is' (each_right _ (measure_uses a.measure) (items_uses is') good) in
      (m.0 ∷ ms.0, λ i. option_both (λ x xs. x ∷ xs) (m.1 i) (ms.1 i), and_from _ _ m.2 ms.2)

  condition_known : (q : tree.Condition tree.Test) → AreJoins (pairs_of false q)
      → AreGood tables (condition_uses q) → Known (condition_is_sound js) (resolved_condition q)
  condition_known (tree.or a b) pairs good =
      both_known (condition_is_sound js) or (λ y z. refl) _ _
      (condition_known a (each_left _ (pairs_of false a) (pairs_of false b) pairs)
      (each_left _ (condition_uses a) (condition_uses b) good))
      (condition_known b (each_right _ (pairs_of false a) (pairs_of false b) pairs)
      (each_right _ (condition_uses a) (condition_uses b) good))
  condition_known (tree.and a b) pairs good =
      both_known (condition_is_sound js) and (λ y z. refl) _ _
      (condition_known a (each_left _ (pairs_of false a) (pairs_of false b) pairs)
      (each_left _ (condition_uses a) (condition_uses b) good))
      (condition_known b (each_right _ (pairs_of false a) (pairs_of false b) pairs)
      (each_right _ (condition_uses a) (condition_uses b) good))
  condition_known (tree.not a) pairs good =
      let x = condition_known a pairs good in (not x.0, ap (option_map not) x.1, x.2)
  condition_known (tree.test (tree.pair m n)) pairs good = absurd (let j = pairs.0.1 in cc)
  condition_known (tree.test (tree.comparison (tree.compare n s l))) pairs good =
      let c = scope_known tables (column_at n) _ _ good.0.0 in
      let k : is_of (kind_of_value l) (column_at n) ≡ true = named_of _ _ good.0.1 in (
        test (compare c.0 s l),
        ap (λ o. option_map test (option_map (λ d. compare d s l) o)) c.1,
        and_from _ _ (reach c.0 c.2) (rw c.1 at k),
      )
  condition_known (tree.test (tree.comparison (tree.between n from upto))) pairs good =
      let c = scope_known tables (column_at n) _ _ good.0.0 in
      let k : (is_of (kind_of_value from) (column_at n)
      && is_of (kind_of_value upto) (column_at n)) ≡ true = named_of _ _ good.0.1 in (
        test (between c.0 from upto),
        ap (λ o. option_map test (option_map (λ d. between d from upto) o)) c.1,
        and_from _ _ (reach c.0 c.2) (rw c.1 at k),
      )

  conjuncts_known : (q : tree.Condition tree.Test) → AreJoins (pairs_of true q)
      → AreGood tables (condition_uses q)
      → Known (list_all (condition_is_sound js)) (conjuncts_of q)
  conjuncts_known (tree.and a b) pairs good =
      both_known (list_all (condition_is_sound js)) (λ xs ys. xs ++ ys)
      (list_all-append (condition_is_sound js)) _ _
      (conjuncts_known a (each_left _ (pairs_of true a) (pairs_of true b) pairs)
      (each_left _ (condition_uses a) (condition_uses b) good))
      (conjuncts_known b (each_right _ (pairs_of true a) (pairs_of true b) pairs)
      (each_right _ (condition_uses a) (condition_uses b) good))
  conjuncts_known (tree.test (tree.pair m n)) pairs good = ([], refl, refl)
  conjuncts_known (tree.or a b) pairs good =
      lone_known _ _ (condition_known (tree.or a b) pairs good)
  conjuncts_known (tree.not a) pairs good =
      lone_known _ _ (condition_known (tree.not a) pairs good)
  conjuncts_known (tree.test (tree.comparison (tree.compare n s l))) pairs good =
      lone_known _ _
      (condition_known (tree.test (tree.comparison (tree.compare n s l))) pairs good)
  conjuncts_known (tree.test (tree.comparison (tree.between n from upto))) pairs good =
      lone_known _ _
      (condition_known (tree.test (tree.comparison (tree.between n from upto))) pairs good)

  pub where_known : (o : Option (tree.Condition tree.Test)) → AreJoins (where_pairs o)
      → AreGood tables (where_uses o) → Known (list_all (condition_is_sound js)) (where_conjuncts o)
  where_known None pairs good = ([], refl, refl)
  where_known (Some q) pairs good = conjuncts_known q pairs good

-- ---- groups, items and the order

pub groups_known : (tables : List Name) (js : List Join) → Reaches tables js → (ns : List Name)
    → AllByRecursion (λ u. scope_fault tables u ≡ None) (groups_uses ns)
    → (cs : List ColumnId) × (option_all column_at ns ≡ Some cs)
    × (list_all (λ c. in_scope js (table_of c)) cs ≡ true)
groups_known tables js reach [] scoped = ([], refl, refl)
groups_known tables js reach (n ∷ ns) scoped =
    let c = scope_known tables (column_at n) _ _ scoped.0 in
    let cs = groups_known tables js reach ns scoped.1 in (
      c.0 ∷ cs.0,
      λ i. option_both (λ x xs. x ∷ xs) (c.1 i) (cs.1 i),
      and_from _ _ (reach c.0 c.2) cs.2,
    )

pub item_grouped : (groups : List Name) (before : List Item) (i : Item)
    → item_fault groups before i ≡ None → is_grouped groups i ≡ true
item_grouped groups before (tree.plain n) e = named_of (has_name groups n.text) _ e
item_grouped groups before (tree.aggregate a) e = refl

pub items_known : (groups : List Name) (before : ℕ) (is' : List Item)
    → AllByRecursion (λ i. is_grouped groups i ≡ true) is'
    → (cs : List GroupColumn) × (items_from groups before is' ≡ Some cs)
items_known groups before [] all = ([], refl)
items_known groups before (tree.plain n ∷ is') all =
    let c = is_there (key_column groups n.text) (key_sought groups n.text ∙ all.0) in
    let cs = items_known groups before is' all.1 in
    (c.0 ∷ cs.0, λ i. option_both (λ x xs. x ∷ xs) (c.1 i) (cs.1 i))
items_known groups before (tree.aggregate a ∷ is') all =
    let cs = items_known groups (before + 1) is' all.1 in (
      group.Aggregate before ∷ cs.0,
      λ i. option_both (λ x xs. x ∷ xs) (Some (group.Aggregate before)) (cs.1 i),
    )

-- ---- joins

joined_table : (ps : List Pair) (t : TableId) → is_joined ps t ≡ joins_table (joins_of ps) t
joined_table [] t = refl
joined_table (p ∷ ps) t = grind (arith, joined_table ps t)

pub reached_each : (ps : List Pair) (tables : List Name)
    → first_answer (missing_fault ps) tables ≡ None
    → AllByRecursion (λ n. is_reached ps (table_at n) ≡ true) tables
reached_each ps tables none =
    each (λ n. missing_fault ps n ≡ None) (λ n. is_reached ps (table_at n) ≡ true)
    (λ n e. named_of (is_reached ps (table_at n)) _ e) tables
    (each_none (missing_fault ps) tables none)

named_reached : (ps : List Pair) (t : TableId) (tables : List Name)
    → has_name tables (table_name t) ≡ true
    → AllByRecursion (λ n. is_reached ps (table_at n) ≡ true) tables
    → (is_table t Lineorder || is_joined ps t) ≡ true
unfolding has_name
named_reached ps t [] e all = absurd (cc)
named_reached ps t (n ∷ ns) e all =
    go (pointwise nat_eq n.text (table_name t)) refl e (λ more. named_reached ps t ns more all.1)
  where
    go : (b : Bool) → pointwise nat_eq n.text (table_name t) ≡ b
        → list_any (λ m. pointwise nat_eq m.text (table_name t)) (n ∷ ns) ≡ true
        → (list_any (λ m. pointwise nat_eq m.text (table_name t)) ns ≡ true
        → (is_table t Lineorder || is_joined ps t) ≡ true)
        → (is_table t Lineorder || is_joined ps t) ≡ true
    go true h e rest =
        let same : n.text ≡ table_name t = same_text n.text (table_name t) (sym h) in
        let here : table_called n.text ≡ Some t = rw same (called t) in
        sym (ap (is_reached ps) here) ∙ all.0
    go false h e rest = rest (rw h at e)

pub reaches : (tables : List Name) (ps : List Pair)
    → AllByRecursion (λ n. is_reached ps (table_at n) ≡ true) tables → Reaches tables (joins_of ps)
reaches tables ps all c named =
    rw (← joined_table ps (table_of c)) (named_reached ps (table_of c) tables named all)
