-- The joins of a query: comparisons of a foreign key with the key that it references.
use Rattle.std.specs.{Prelude.{ℕ, Bool, true, false, ◌&&◌, ◌==◌, List, [], ◌∷◌, ◌++◌, Option, Some, None, if◌then◌else◌}, List.{flat_map, list_any}, Option.{option_or, option_to_list}}
use Rattle.star_schema.specs.{Schema.{index_of, is_table, key_of, references, table_of}, declared.table.TableId.TableId, declared.table.Key.Key, declared.table.Key.TheVariants.{One, Two}, declared.column.ColumnId.ColumnId}
use Rattle.star_query.specs.Tree.{Condition, Test, pair, comparison, and, or, not, test}
use Rattle.star_plan.specs.{declared.tree.Join.Join, Names.column_at}

abbrev pub is_lone_key : ColumnId → Key → Bool
is_lone_key c (One k) = index_of c == index_of k
is_lone_key c (Two j k) = false

abbrev pub refers : Option TableId → TableId → Bool
refers None t = false
refers (Some referred) t = is_table referred t

-- the first column is a foreign key, and the second the key that it references
abbrev pub is_foreign : ColumnId → ColumnId → Bool
is_foreign f k = refers (references f) (table_of k) && is_lone_key k (key_of (table_of k))

abbrev pub join_by : ColumnId → ColumnId → Option Join
join_by f k = if is_foreign f k then Some (record { foreign = f; key = k }) else None

-- the join that two columns make, in either order
abbrev pub join_of : Option ColumnId → Option ColumnId → Option Join
join_of (Some a) (Some b) = option_or (join_by a b) (join_by b a)
join_of _ _ = None

-- two columns that are compared: the join that they make there, if they make one, and the position
-- of the first of them
pub record Pair : Type 0 where
  pub join : Option Join
  pub at : ℕ

-- the comparisons of two columns, from the left; they join if they are reached through AND only
abbrev pub pairs_of : (is_conjunct : Bool) → Condition Test → List Pair
pairs_of b (and c d) = pairs_of b c ++ pairs_of b d
pairs_of b (or c d) = pairs_of false c ++ pairs_of false d
pairs_of b (not c) = pairs_of false c
pairs_of b (test (pair m n)) = record { join = (if b then join_of (column_at m) (column_at n) else None); at = m.offset } ∷ []
pairs_of b (test (comparison c)) = []

abbrev pub where_pairs : Option (Condition Test) → List Pair
where_pairs None = []
where_pairs (Some c) = pairs_of true c

-- the joins among the comparisons
abbrev pub joins_of : List Pair → List Join
joins_of pairs = flat_map (λ p. option_to_list p.join) pairs

abbrev pub joins : TableId → Option Join → Bool
joins t None = false
joins t (Some j) = is_table t (table_of j.key)

-- one of the comparisons joins the table
abbrev pub is_joined : List Pair → TableId → Bool
is_joined pairs t = list_any (λ p. joins t p.join) pairs
