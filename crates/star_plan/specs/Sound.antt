-- What every plan keeps.
use Rattle.std.specs.{Prelude.{◌≡◌, ℕ, ◌≤◌, nat_lt, Bool, true, ◌&&◌, ◌||◌, not as negated, List, [], ◌∷◌, length}, List.list_all, List.list_any}
use Rattle.star_schema.specs.{declared.table.TableId.TableId, declared.table.TableId.TheVariants.Lineorder, declared.column.ColumnId.ColumnId, declared.column.Kind.Kind, declared.group.GroupColumn.GroupColumn, Schema.{is_table, kind_of, table_of}, Tables.{Value, kind_of_value}}
use Rattle.star_plan.specs.{declared.tree.Join.Join, Joins.is_foreign, Meaning.RowCondition, Meaning.Plan, Names.same_kind}
use Rattle.star_query.specs.{Tree.{Expression, Comparison, compare, between, Measure, fold, count}, Leaves.{of_operands, of_tests}}
use Rattle.star_schema.specs.declared.column.Kind.TheVariants as kind
use Rattle.star_schema.specs.declared.group.GroupColumn.TheVariants as group

abbrev pub joins_table : List Join → TableId → Bool
joins_table js t = list_any (λ j. is_table t (table_of j.key)) js

-- the table is the fact's or that of a join
abbrev pub in_scope : List Join → TableId → Bool
in_scope js t = is_table t Lineorder || joins_table js t

-- a column is in scope, and of a kind
abbrev pub column_is_sound : List Join → Kind → ColumnId → Bool
column_is_sound js k c = in_scope js (table_of c) && same_kind (kind_of c) k

-- a column is compared with values of its kind
abbrev pub comparison_is_sound : List Join → Comparison ColumnId Value → Bool
comparison_is_sound js (compare c s v) = column_is_sound js (kind_of_value v) c
comparison_is_sound js (between c from upto) =
    in_scope js (table_of c) && (same_kind (kind_of c) (kind_of_value from) && same_kind (kind_of c) (kind_of_value upto))

abbrev pub condition_is_sound : List Join → RowCondition → Bool
condition_is_sound js c = of_tests (comparison_is_sound js) (λ b. b) ◌&&◌ c

-- inside an aggregate are numbers
abbrev pub expression_is_sound : List Join → Expression ColumnId → Bool
expression_is_sound js e = of_operands (column_is_sound js kind.Number) (λ z. true) ◌&&◌ e

abbrev pub measure_is_sound : List Join → Measure ColumnId → Bool
measure_is_sound js count = true
measure_is_sound js (fold f e) = expression_is_sound js e

-- no table is joined twice
abbrev pub are_distinct : List Join → Bool
are_distinct [] = true
are_distinct (j ∷ js) = list_all (λ q. negated (is_table (table_of q.key) (table_of j.key))) js && are_distinct js

-- a group with these numbers of keys and aggregates has this column
abbrev pub is_group_column : (keys aggregates : ℕ) → GroupColumn → Bool
is_group_column keys aggregates (group.Key n) = nat_lt n keys
is_group_column keys aggregates (group.Aggregate n) = nat_lt n aggregates

-- what every plan keeps
pub record IsSoundPlan (p : Plan) : Type 0 where
  pub joins : list_all (λ j. is_foreign j.foreign j.key) p.joins ≡ true
  pub distinct : are_distinct p.joins ≡ true
  pub conjuncts : list_all (condition_is_sound p.joins) p.conjuncts ≡ true
  pub keys : list_all (λ c. in_scope p.joins (table_of c)) p.keys ≡ true
  pub measures : list_all (measure_is_sound p.joins) p.measures ≡ true
  pub names : length p.names ≡ length p.measures
  pub items : list_all (is_group_column (length p.keys) (length p.measures)) p.items ≡ true
  pub shown : 1 ≤ length p.items
  pub sorts : list_all (λ s. is_group_column (length p.keys) (length p.measures) s.column) p.sorts ≡ true
