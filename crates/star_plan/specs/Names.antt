-- The tables and columns that a query names.
use Rattle.std.specs.{Prelude.{ℕ, Bool, true, false, List, Option, Some, None, nat_eq}, List.list_any, Cmp.Lexicographic.pointwise}
use Rattle.star_schema.specs.{declared.table.TableId.TableId, declared.table.TheConstants.TABLES, declared.column.ColumnId.ColumnId, declared.column.TheConstants.COLUMNS, declared.column.Kind.Kind, Schema.column_name, Schema.kind_of, Schema.table_name, Words.named}
use Rattle.star_query.specs.Tree.{Name}
use Rattle.star_schema.specs.declared.column.Kind.TheVariants as kind

-- the table and the column with a name
unfoldable pub table_called : List ℕ → Option TableId
table_called name = named table_name TABLES name

unfoldable pub column_called : List ℕ → Option ColumnId
column_called name = named column_name COLUMNS name

abbrev pub table_at : Name → Option TableId
table_at n = table_called n.text

abbrev pub column_at : Name → Option ColumnId
column_at n = column_called n.text

-- one of the names reads so
unfoldable pub has_name : List Name → List ℕ → Bool
has_name names word = list_any (λ n. pointwise nat_eq n.text word) names

abbrev pub same_kind : Kind → Kind → Bool
same_kind kind.Number kind.Number = true
same_kind kind.Text kind.Text = true
same_kind _ _ = false

-- a column, if there is one, holds this kind of value
abbrev pub is_of : Kind → Option ColumnId → Bool
is_of k None = true
is_of k (Some c) = same_kind (kind_of c) k
