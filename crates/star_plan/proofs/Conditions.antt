-- A query is well named exactly where it has no fault.
use Rattle.std.{proofs.Common.{◌≡◌, ◌∙◌, sym, ap, subst, ℕ, ◌+◌, ◌≤◌, Bool, true, false, ◌||◌, if◌then◌else◌, List, [], ◌∷◌, ◌++◌, Option, Some, None, length, append-nil, arith, refl}, proofs.lemmas.Bool.{or_from, or_parts}, specs.List.{AllByRecursion, IsDistinct}, specs.Option.{is_none, option_or}}
use Rattle.star_common.{proofs.Firsts.or_none, specs.First.first_answer}
use Rattle.star_schema.specs.{declared.table.TableId.TheVariants.Lineorder, declared.column.ColumnId.ColumnId, Schema.table_name, Schema.table_of}
use Rattle.star_query.specs.Tree.{Item, Name, Tree, aggregate, plain}
use Rattle.star_plan.{specs.Faults.{aggregates_fault, fact_fault, group_fault, item_fault, item_fault_after, key_fault, use_kind_fault, missing_fault, pair_fault, plan_fault, scope_fault, from_table_fault}, specs.WellNamed.{IsThere, IsWellNamed, is_grouped, is_in_from, is_reached, same_name, same_text}, specs.declared.fault.PlanFault.PlanFault, specs.Joins.where_pairs, specs.First.{first_after, first_beside}, specs.Names.{has_name, table_at}, specs.Uses.uses_of, specs.Naming.{name_of_aggregate, aggregate_names, has_text, names_from}, specs.Private.Stages.order_fault, proofs.Apart.{AreApart, IsFresh, apart_first, apart_from, apart_more, apart_rest, apart_to, each, each_after, each_two, found_known, found_none, none_or, some_from, some_to}, proofs.Known.{named_of, scope_known}, proofs.PreservedJoins.{are_apart, pair_none, same_join}, proofs.Whole.parts}

none_from : {A : Type 0} (b : Bool) (x : A) → b ≡ true → (if b then None else Some x) ≡ None
none_from true x e = refl
none_from false x e = absurd (cc)

none_each : {X A : Type 0} (f : X → Option A) (xs : List X) → AllByRecursion (λ x. f x ≡ None) xs
    → first_answer f xs ≡ None
unfolding first_answer
none_each f [] all = refl
none_each f (x ∷ xs) all = none_or (f x) (first_answer f xs) all.0 (none_each f xs all.1)

-- ---- FROM

table_known : (before : List Name) (n : Name) → from_table_fault before n ≡ None
    → IsThere (table_at n) × IsFresh same_name before n
unfolding has_name
table_known before n e = found_known (table_at n) (has_name before n.text) _ _ e

table_none : (before : List Name) (n : Name) → IsFresh same_name before n → IsThere (table_at n)
    → from_table_fault before n ≡ None
unfolding has_name
table_none before n fresh there = found_none (table_at n) (has_name before n.text) _ _ there fresh

-- ---- the names of columns and the joins

of_column_none : {F : Type 0} (tables : List Name) (o : Option ColumnId) (x y : F) → IsThere o
    → is_in_from tables o ≡ true
    → (if is_none o then Some x else if is_in_from tables o then None else Some y) ≡ None
of_column_none tables None x y there e = absurd (let wrong = there.1 in cc)
of_column_none tables (Some c) x y there e =
    none_from (has_name tables (table_name (table_of c))) _ e

-- ---- GROUP BY

group_fresh : (before : List Name) (n : Name) → group_fault before n ≡ None
    → IsFresh same_name before n
unfolding has_name
group_fresh before n e = some_to (has_name before n.text) _ e

group_none : (before : List Name) (n : Name) → IsFresh same_name before n
    → IsFresh same_name [] n → group_fault before n ≡ None
unfolding has_name
group_none before n fresh first = some_from (has_name before n.text) _ fresh

-- ---- items

-- the names of the aggregates with one more item
abbrev more_names : List (List ℕ) → Item → List (List ℕ)
more_names names (plain n) = names
more_names names (aggregate a) = names ++ name_of_aggregate (length names + 1) a ∷ []

names_last : (n : ℕ) (before : List Item) (i : Item)
    → names_from n (before ++ i ∷ [])
    ≡ names_from n before ++ names_from (n + length (names_from n before)) (i ∷ [])
names_last n [] i = let none : n + 0 ≡ n = omega arith in rw none refl
names_last n (plain y ∷ ys) i = names_last n ys i
names_last n (aggregate y ∷ ys) i = grind (arith, names_last (n + 1) ys i)

names_more : (before : List Item) (i : Item)
    → aggregate_names (before ++ i ∷ []) ≡ more_names (aggregate_names before) i
names_more before it = grind (arith, names_last, append-nil)

-- the first fault of items after aggregates of these names
abbrev items_fault : List Name → List (List ℕ) → List Item → Option PlanFault
items_fault groups names [] = None
items_fault groups names (i ∷ is') =
    option_or (item_fault_after groups names i) (items_fault groups (more_names names i) is')

same_faults : (groups : List Name) (before is' : List Item)
    → first_after (item_fault groups) before is' ≡ items_fault groups (aggregate_names before) is'
same_faults groups before [] = refl
same_faults groups before (i ∷ is') =
    ap (option_or (item_fault groups before i))
    (same_faults groups (before ++ i ∷ []) is'
    ∙ ap (λ names. items_fault groups names is') (names_more before i))

-- items, after aggregates of these names, whose own aggregates have those
record AreShown (groups : List Name) (names own : List (List ℕ)) (is' : List Item) : Type 0 where
  grouped : AllByRecursion (λ i. is_grouped groups i ≡ true) is'
  free : AllByRecursion (λ name. has_name groups name ≡ false) own
  apart : AreApart same_text names own

one_longer : (names : List (List ℕ)) (name : List ℕ)
    → length (names ++ name ∷ []) ≡ length names + 1
one_longer [] name = refl
one_longer (x ∷ xs) name = let more = one_longer xs name in omega (arith, more)

items_to : (groups : List Name) (names : List (List ℕ)) (is' : List Item)
    → items_fault groups names is' ≡ None
    → AreShown groups names (names_from (length names + 1) is') is'
unfolding IsDistinct has_text
items_to groups names [] e =
    record { grouped = tt; free = tt; apart = record { fresh = tt; apart = tt } }
items_to groups names (plain n ∷ is') e =
    let parts = or_none (item_fault_after groups names (plain n)) (items_fault groups names is')
    e in
    let rest = items_to groups names is' parts.1 in
    record {
      grouped = (named_of (has_name groups n.text) _ parts.0, rest.grouped);
      free = rest.free;
      apart = rest.apart;
    }
items_to groups names (aggregate a ∷ is') e =
    let name = name_of_aggregate (length names + 1) a in
    let parts = or_none (item_fault_after groups names (aggregate a))
    (items_fault groups (names ++ name ∷ []) is') e in
    let neither = or_parts (has_text names name) (has_name groups name) (some_to _ _ parts.0) in
    let rest = subst (λ k. AreShown groups (names ++ name ∷ []) (names_from (k + 1) is') is')
    (one_longer names name) (items_to groups (names ++ name ∷ []) is' parts.1) in
    record {
      grouped = (refl, rest.grouped);
      free = (neither.1, rest.free);
      apart = apart_more same_text names name (names_from (length names + 1 + 1) is') neither.0
          rest.apart;
    }

items_none : (groups : List Name) (names : List (List ℕ)) (is' : List Item)
    → AreShown groups names (names_from (length names + 1) is') is'
    → items_fault groups names is' ≡ None
unfolding has_text
items_none groups names [] shown = refl
items_none groups names (plain n ∷ is') shown =
    none_or (item_fault_after groups names (plain n)) (items_fault groups names is')
    (none_from (has_name groups n.text) _ shown.grouped.0)
    (items_none groups names is'
    (record { grouped = shown.grouped.1; free = shown.free; apart = shown.apart }))
items_none groups names (aggregate a ∷ is') shown =
    let name = name_of_aggregate (length names + 1) a in
    let own = names_from (length names + 1 + 1) is' in
    let rest : AreShown groups (names ++ name ∷ []) own is' =
    record {
      grouped = shown.grouped.1;
      free = shown.free.1;
      apart = apart_rest same_text names name own shown.apart;
    } in
    none_or (item_fault_after groups names (aggregate a))
    (items_fault groups (names ++ name ∷ []) is')
    (some_from (has_text names name || has_name groups name) _
    (or_from _ _ shown.apart.fresh.0 shown.free.0))
    (items_none groups (names ++ name ∷ []) is'
    (subst (λ k. AreShown groups (names ++ name ∷ []) (names_from (k + 1) is') is')
    (sym (one_longer names name)) rest))

pub some_there : (names : List (List ℕ)) → aggregates_fault names ≡ None → 1 ≤ length names
some_there [] e = absurd (cc)
some_there (n ∷ ns) e = omega arith

some_none : (names : List (List ℕ)) → 1 ≤ length names → aggregates_fault names ≡ None
some_none [] e = absurd (omega (arith, e))
some_none (n ∷ ns) e = refl

-- ---- a query

pub well_named : (t : Tree) → plan_fault t ≡ None → IsWellNamed t
well_named t none =
    let p = parts t none in
    let groups = t.grouping.columns in
    let uses = uses_of t in
    let are_shown = items_to groups [] t.items (sym (same_faults groups [] t.items) ∙ p.shown) in
    record {
      tables = each_after from_table_fault (λ n. IsThere (table_at n))
          (λ before n e. (table_known before n e).0) [] t.tables p.named.tables;
      tables_once = (apart_to from_table_fault same_name
          (λ before n e. (table_known before n e).1) [] t.tables p.named.tables).apart;
      fact = named_of (has_name t.tables (table_name Lineorder)) _ p.named.fact;
      columns = each (λ u. scope_fault t.tables u ≡ None) (λ u. IsThere u.column)
          (λ u e. let c = scope_known t.tables u.column _ _ e in (c.0, c.1)) uses p.named.scoped;
      scope = each (λ u. scope_fault t.tables u ≡ None) (λ u. is_in_from t.tables u.column ≡ true)
          (λ u e. let c = scope_known t.tables u.column _ _ e in
          ap (is_in_from t.tables) c.1 ∙ c.2) uses p.named.scoped;
      kinds = each (λ u. use_kind_fault u ≡ None) (λ u. u.fits ≡ true) (λ u e. named_of u.fits _ e)
          uses p.named.fit;
      joins = p.named.pairs;
      joined_once = p.named.apart;
      joined = p.named.joined;
      groups_once = (apart_to group_fault same_name group_fresh [] groups p.groups).apart;
      grouped = are_shown.grouped;
      aggregates = some_there (aggregate_names t.items) p.some;
      names_once = are_shown.apart.apart;
      names_free = are_shown.free;
      order = each (λ k. key_fault groups (aggregate_names t.items) k ≡ None)
          (λ k. has_name groups k.name.text || has_text (aggregate_names t.items) k.name.text
          ≡ true) (λ k e. named_of _ _ e) t.keys p.order;
    }

pub no_fault : (t : Tree) → IsWellNamed t → plan_fault t ≡ None
no_fault t w =
    let tables = t.tables in
    let groups = t.grouping.columns in
    let items = t.items in
    let uses = uses_of t in
    let ps = where_pairs t.condition in
    let named : first_beside from_table_fault tables ≡ None =
    apart_from from_table_fault same_name (λ n. IsThere (table_at n)) table_none [] tables w.tables
    (apart_first same_name tables w.tables_once) in
    let fact : fact_fault tables ≡ None =
    none_from (has_name tables (table_name Lineorder)) _ w.fact in
    let columns : first_answer (scope_fault tables) uses ≡ None =
    none_each (scope_fault tables) uses
    (each_two (λ u. IsThere u.column) (λ u. is_in_from tables u.column ≡ true)
    (λ u. scope_fault tables u ≡ None)
    (λ u there e. of_column_none tables u.column _ _ there e) uses w.columns w.scope) in
    let pairs : first_beside pair_fault ps ≡ None =
    apart_from pair_fault same_join (λ p. IsThere p.join) pair_none [] ps w.joins
    (apart_first same_join ps (are_apart ps w.joins w.joined_once)) in
    let missing : first_answer (missing_fault ps) tables ≡ None =
    none_each (missing_fault ps) tables
    (each (λ n. is_reached ps (table_at n) ≡ true) (λ n. missing_fault ps n ≡ None)
    (λ n e. none_from (is_reached ps (table_at n)) _ e) tables w.joined) in
    let kinds : first_answer use_kind_fault uses ≡ None =
    none_each use_kind_fault uses
    (each (λ u. u.fits ≡ true) (λ u. use_kind_fault u ≡ None) (λ u e. none_from u.fits _ e) uses
    w.kinds) in
    let group = apart_first same_name groups w.groups_once in
    let once : first_beside group_fault groups ≡ None =
    apart_from group_fault same_name (IsFresh same_name []) group_none [] groups group.fresh
    group in
    let shown : first_beside (item_fault groups) items ≡ None =
    same_faults groups [] items
    ∙ items_none groups [] items
    (record {
      grouped = w.grouped;
      free = w.names_free;
      apart = apart_first same_text (aggregate_names items) w.names_once;
    }) in
    let order : order_fault groups items t.keys ≡ None =
    none_each (key_fault groups (aggregate_names items)) t.keys
    (each (λ k. has_name groups k.name.text || has_text (aggregate_names items) k.name.text ≡ true)
    (λ k. key_fault groups (aggregate_names items) k ≡ None) (λ k e. none_from _ _ e) t.keys
    w.order) in
    none_or _ _
    (none_or _ _ (none_or _ _ named fact)
    (none_or _ _ columns (none_or _ _ (none_or _ _ pairs missing) kinds)))
    (none_or _ _ once (none_or _ _
    (none_or _ _ shown (some_none (aggregate_names items) w.aggregates)) order))
