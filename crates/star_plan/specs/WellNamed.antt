-- Which queries are well named, condition by condition (this project's profile of SQL).
use Rattle.std.specs.{Prelude.{◌≡◌, ℕ, ◌≤◌, Bool, true, false, ◌||◌, List, length, Option, Some, None, nat_eq}, List.{AllByRecursion, IsDistinct}, Cmp.Lexicographic.pointwise}
use Rattle.star_schema.specs.{declared.table.TableId.TableId, declared.table.TableId.TheVariants.Lineorder, declared.column.ColumnId.ColumnId, Schema.is_table, Schema.table_name, Schema.table_of}
use Rattle.star_query.specs.Tree.{Item, Name, Tree, aggregate, plain}
use Rattle.star_plan.specs.{Names.has_name, Names.table_at, Uses.uses_of, Joins.Pair, Joins.is_joined, Joins.joins_of, Joins.where_pairs, Naming.aggregate_names, Naming.has_text, Sound.are_distinct}

-- it names something
abbrev pub IsThere : {A : Type 0} → Option A → Type 0
IsThere {A} o = (x : A) × (o ≡ Some x)

abbrev pub same_text : List ℕ → List ℕ → Bool
same_text a b = pointwise nat_eq a b

abbrev pub same_name : Name → Name → Bool
same_name m n = same_text m.text n.text

-- the table of the column is in FROM
abbrev pub is_in_from : List Name → Option ColumnId → Bool
is_in_from tables None = true
is_in_from tables (Some c) = has_name tables (table_name (table_of c))

-- the table is lineorder, or one of the comparisons joins it
abbrev pub is_reached : List Pair → Option TableId → Bool
is_reached pairs None = true
is_reached pairs (Some t) = is_table t Lineorder || is_joined pairs t

-- a plain column is in GROUP BY
abbrev pub is_grouped : List Name → Item → Bool
is_grouped groups (plain n) = has_name groups n.text
is_grouped groups (aggregate a) = true

pub record IsWellNamed (t : Tree) : Type 0 where
  -- FROM names tables, none of them twice, and lineorder
  pub tables : AllByRecursion (λ n. IsThere (table_at n)) t.tables
  pub tables_once : IsDistinct same_name t.tables
  pub fact : has_name t.tables (table_name Lineorder) ≡ true
  -- SELECT, WHERE and GROUP BY name columns, of tables in FROM, each of the kind that its use asks
  -- for
  pub columns : AllByRecursion (λ u. IsThere u.column) (uses_of t)
  pub scope : AllByRecursion (λ u. is_in_from t.tables u.column ≡ true) (uses_of t)
  pub kinds : AllByRecursion (λ u. u.fits ≡ true) (uses_of t)
  -- if two columns are compared, they join lineorder with a dimension: no dimension twice, and each
  -- that FROM names
  pub joins : AllByRecursion (λ p. IsThere p.join) (where_pairs t.condition)
  pub joined_once : are_distinct (joins_of (where_pairs t.condition)) ≡ true
  pub joined : AllByRecursion (λ n. is_reached (where_pairs t.condition) (table_at n) ≡ true) t.tables
  -- GROUP BY names no column twice, and each plain column of SELECT
  pub groups_once : IsDistinct same_name t.grouping.columns
  pub grouped : AllByRecursion (λ i. is_grouped t.grouping.columns i ≡ true) t.items
  -- there is an aggregate, and no two of them have one name, nor one and a group column
  pub aggregates : 1 ≤ length (aggregate_names t.items)
  pub names_once : IsDistinct same_text (aggregate_names t.items)
  pub names_free : AllByRecursion (λ name. has_name t.grouping.columns name ≡ false) (aggregate_names t.items)
  -- ORDER BY names group columns and aggregates
  pub order : AllByRecursion (λ k. has_name t.grouping.columns k.name.text || has_text (aggregate_names t.items) k.name.text ≡ true) t.keys
