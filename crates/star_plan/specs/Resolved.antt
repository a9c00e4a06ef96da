-- A query with its names resolved.
use Rattle.std.specs.Prelude.{◌≡◌, ℕ, ◌+◌, List, [], ◌∷◌, ◌++◌, Option, Some, None, option_map}
use Rattle.star_schema.specs.{declared.column.ColumnId.ColumnId, declared.group.GroupColumn.GroupColumn, Tables.Value}
use Rattle.star_query.specs.Tree.{Item, Name, Tree, Expression, column, constant, add, sub, mul, Comparison, compare, between, Test, pair, comparison, Condition, or, and, not, test, Measure, fold, count}
use Rattle.star_plan.specs.{Meaning.RowCondition, Meaning.Plan, Names.column_at, Joins.joins_of, Joins.where_pairs, Naming.aggregate_names, Naming.key_column, Naming.resolved_key}
use Rattle.star_schema.specs.declared.group.GroupColumn.TheVariants as group
use Rattle.star_query.specs.Tree as tree

-- both values by an operation, or none if one is missing
abbrev pub option_both : {A B C : Type 0} → (A → B → C) → Option A → Option B → Option C
option_both f (Some a) (Some b) = Some (f a b)
option_both f _ _ = None

-- the result of each element, or none if one has none
abbrev pub option_all : {A B : Type 0} → (A → Option B) → List A → Option (List B)
option_all f [] = Some []
option_all f (x ∷ xs) = option_both (λ y ys. y ∷ ys) (f x) (option_all f xs)

-- ---- expressions and conditions

abbrev pub resolved_expression : Expression Name → Option (Expression ColumnId)
resolved_expression (tree.column n) = option_map column (column_at n)
resolved_expression (tree.constant z) = Some (constant z)
resolved_expression (tree.add a b) = option_both add (resolved_expression a) (resolved_expression b)
resolved_expression (tree.sub a b) = option_both sub (resolved_expression a) (resolved_expression b)
resolved_expression (tree.mul a b) = option_both mul (resolved_expression a) (resolved_expression b)

abbrev pub resolved_measure : Measure Name → Option (Measure ColumnId)
resolved_measure count = Some count
resolved_measure (fold f e) = option_map (fold f) (resolved_expression e)

-- none if it compares two columns
abbrev pub resolved_test : Test → Option (Comparison ColumnId Value)
resolved_test (pair m n) = None
resolved_test (comparison (compare n s l)) = option_map (λ c. compare c s l) (column_at n)
resolved_test (comparison (between n from upto)) = option_map (λ c. between c from upto) (column_at n)

abbrev pub resolved_condition : Condition Test → Option RowCondition
resolved_condition (or a b) = option_both or (resolved_condition a) (resolved_condition b)
resolved_condition (and a b) = option_both and (resolved_condition a) (resolved_condition b)
resolved_condition (not a) = option_map not (resolved_condition a)
resolved_condition (test t) = option_map test (resolved_test t)

-- the conjuncts that don't compare two columns, from the left
abbrev pub conjuncts_of : Condition Test → Option (List RowCondition)
conjuncts_of (and a b) = option_both (λ xs ys. xs ++ ys) (conjuncts_of a) (conjuncts_of b)
conjuncts_of (test (pair m n)) = Some []
conjuncts_of c = option_map (λ x. x ∷ []) (resolved_condition c)

abbrev pub where_conjuncts : Option (Condition Test) → Option (List RowCondition)
where_conjuncts None = Some []
where_conjuncts (Some c) = conjuncts_of c

-- ---- groups, aggregates, items and the order

-- what SELECT computes of each group, from the left
abbrev pub measures_of : List Item → List (Measure Name)
measures_of [] = []
measures_of (tree.plain n ∷ is') = measures_of is'
measures_of (tree.aggregate a ∷ is') = a.measure ∷ measures_of is'

-- the cells of the items, after `before` aggregates
abbrev pub items_from : List Name → ℕ → List Item → Option (List GroupColumn)
items_from groups before [] = Some []
items_from groups before (tree.plain n ∷ is') = option_both (λ c cs. c ∷ cs) (key_column groups n.text) (items_from groups before is')
items_from groups before (tree.aggregate a ∷ is') = option_both (λ c cs. c ∷ cs) (Some (group.Aggregate before)) (items_from groups (before + 1) is')

-- ---- a query

-- the plan is the query with its names resolved and its joins apart from the rest of its condition
pub record IsResolved (t : Tree) (p : Plan) : Type 0 where
  pub joins : p.joins ≡ joins_of (where_pairs t.condition)
  pub conjuncts : where_conjuncts t.condition ≡ Some p.conjuncts
  pub shape : p.shape ≡ t.grouping.shape
  pub keys : option_all column_at t.grouping.columns ≡ Some p.keys
  pub measures : option_all resolved_measure (measures_of t.items) ≡ Some p.measures
  pub names : p.names ≡ aggregate_names t.items
  pub items : items_from t.grouping.columns 0 t.items ≡ Some p.items
  pub sorts : option_all (resolved_key t.grouping.columns (aggregate_names t.items)) t.keys ≡ Some p.sorts
