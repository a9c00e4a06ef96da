-- A well named query has each part of its plan.
use Rattle.std.{proofs.Common.{◌≡◌, true, List, [], ◌++◌, Some, None}, specs.List.{AllByRecursion, list_all}, specs.Option.option_or}
use Rattle.star_common.{proofs.Firsts.or_none, specs.First.first_answer}
use Rattle.star_schema.specs.{declared.column.ColumnId.ColumnId, declared.group.GroupColumn.GroupColumn, Schema.table_of}
use Rattle.star_query.specs.Tree.{Tree, Measure}
use Rattle.star_plan.{specs.First.first_beside, specs.Meaning.RowCondition, specs.Names.{column_at, table_at}, specs.Uses.{uses_of, where_uses}, specs.Joins.{joins_of, where_pairs}, specs.Naming.aggregate_names, specs.Resolved.{items_from, option_all, where_conjuncts}, specs.Sound.{are_distinct, condition_is_sound, in_scope, measure_is_sound}, specs.Private.Stages.{groups_uses, items_uses, from_fault, grouping_fault, join_fault, naming_fault, order_fault, resolved_measures, select_fault}, specs.Faults.{aggregates_fault, fact_fault, group_fault, item_fault, key_fault, use_kind_fault, missing_fault, pair_fault, plan_fault, scope_fault, from_table_fault}, specs.WellNamed.{IsThere, is_grouped, is_reached}, proofs.Apart.{apart_to, each_after, each_two}, proofs.PreservedJoins.{distinct, pair_known, same_join}, proofs.Known.{AreGood, Reaches, each_left, each_none, each_right, groups_known, item_grouped, items_known, measures_known, reached_each, reaches, where_known}}

-- what it says that no name of a table or a column is at fault
pub record Named (t : Tree) : Type 0 where
  pub tables : first_beside from_table_fault t.tables ≡ None
  pub fact : fact_fault t.tables ≡ None
  pub scoped : AllByRecursion (λ u. scope_fault t.tables u ≡ None) (uses_of t)
  pub fit : AllByRecursion (λ u. use_kind_fault u ≡ None) (uses_of t)
  pub pairs : AllByRecursion (λ p. IsThere p.join) (where_pairs t.condition)
  pub joined : AllByRecursion (λ n. is_reached (where_pairs t.condition) (table_at n) ≡ true)
      t.tables
  pub reach : Reaches t.tables (joins_of (where_pairs t.condition))
  pub apart : are_distinct (joins_of (where_pairs t.condition)) ≡ true

-- what well named says of each part
pub record Parts (t : Tree) : Type 0 where
  pub named : Named t
  pub groups : first_beside group_fault t.grouping.columns ≡ None
  pub shown : first_beside (item_fault t.grouping.columns) t.items ≡ None
  pub items : AllByRecursion (λ i. is_grouped t.grouping.columns i ≡ true) t.items
  pub some : aggregates_fault (aggregate_names t.items) ≡ None
  pub order : AllByRecursion (λ k. key_fault t.grouping.columns (aggregate_names t.items) k ≡ None)
      t.keys

pub named : (t : Tree) → naming_fault t.tables (uses_of t) (where_pairs t.condition) ≡ None
    → Named t
named t none =
    let tables = t.tables in
    let ps = where_pairs t.condition in
    let names = or_none (from_fault tables)
    (option_or (first_answer (scope_fault tables) (uses_of t))
    (option_or (join_fault tables ps) (first_answer use_kind_fault (uses_of t)))) none in
    let from = or_none (first_beside from_table_fault tables) (fact_fault tables) names.0 in
    let columns = or_none (first_answer (scope_fault tables) (uses_of t))
    (option_or (join_fault tables ps) (first_answer use_kind_fault (uses_of t))) names.1 in
    let rest = or_none (join_fault tables ps) (first_answer use_kind_fault (uses_of t)) columns.1 in
    let joined = or_none (first_beside pair_fault ps) (first_answer (missing_fault ps) tables)
    rest.0 in
    let pairs = each_after pair_fault (λ p. IsThere p.join)
    (λ before p e. (pair_known before p e).0)
    [] ps joined.0 in
    let reached = reached_each ps tables joined.1 in
    record {
      tables = from.0;
      fact = from.1;
      scoped = each_none (scope_fault tables) (uses_of t) columns.0;
      fit = each_none use_kind_fault (uses_of t) rest.1;
      pairs = pairs;
      joined = reached;
      reach = reaches tables ps reached;
      apart = distinct ps pairs (apart_to pair_fault same_join
          (λ before p e. (pair_known before p e).1) [] ps joined.0).apart;
    }

pub parts : (t : Tree) → plan_fault t ≡ None → Parts t
parts t none =
    let groups = t.grouping.columns in
    let items = t.items in
    let keys = t.keys in
    let halves = or_none (naming_fault t.tables (uses_of t) (where_pairs t.condition))
    (grouping_fault groups items keys) none in
    let grouping = or_none (first_beside group_fault groups)
    (option_or (select_fault groups items) (order_fault groups items keys)) halves.1 in
    let select = or_none (select_fault groups items) (order_fault groups items keys) grouping.1 in
    let shown = or_none (first_beside (item_fault groups) items)
    (aggregates_fault (aggregate_names items)) select.0 in
    record {
      named = named t halves.0;
      groups = grouping.0;
      shown = shown.0;
      items = each_after (item_fault groups) (λ i. is_grouped groups i ≡ true)
          (item_grouped groups) [] items shown.0;
      some = shown.1;
      order = each_none (key_fault groups (aggregate_names items)) keys select.1;
    }

all_good : (t : Tree) → Named t → AreGood t.tables (uses_of t)
all_good t p = each_two _ _ _ (λ u scoped fit. (scoped, fit)) (uses_of t) p.scoped p.fit

pub conjuncts_there : (t : Tree) → Named t
    → (xs : List RowCondition) × (where_conjuncts t.condition ≡ Some xs)
    × (list_all (condition_is_sound (joins_of (where_pairs t.condition))) xs ≡ true)
conjuncts_there t p =
    where_known t.tables (joins_of (where_pairs t.condition)) p.reach t.condition p.pairs
    (each_left _ (where_uses t.condition) (groups_uses t.grouping.columns)
    (each_right _ (items_uses t.items)
    (where_uses t.condition ++ groups_uses t.grouping.columns) (all_good t p)))

pub keys_there : (t : Tree) → Named t
    → (cs : List ColumnId) × (option_all column_at t.grouping.columns ≡ Some cs)
    × (list_all (λ c. in_scope (joins_of (where_pairs t.condition)) (table_of c)) cs ≡ true)
keys_there t p =
    groups_known t.tables (joins_of (where_pairs t.condition)) p.reach t.grouping.columns
    (each_right _ (where_uses t.condition) (groups_uses t.grouping.columns)
    (each_right _ (items_uses t.items)
    (where_uses t.condition ++ groups_uses t.grouping.columns) p.scoped))

pub measures_there : (t : Tree) → Named t
    → (ms : List (Measure ColumnId)) × (resolved_measures t.items ≡ Some ms)
    × (list_all (measure_is_sound (joins_of (where_pairs t.condition))) ms ≡ true)
measures_there t p =
    measures_known t.tables (joins_of (where_pairs t.condition)) p.reach t.items
    (each_left _ (items_uses t.items) (where_uses t.condition ++ groups_uses t.grouping.columns)
    (all_good t p))

pub items_there : (t : Tree) → Parts t
    → (cs : List GroupColumn) × (items_from t.grouping.columns 0 t.items ≡ Some cs)
items_there t p = items_known t.grouping.columns 0 t.items p.items
