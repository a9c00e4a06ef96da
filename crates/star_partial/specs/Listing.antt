-- The listing of five tables: the row count of each, and the bounds of its numeric columns.
use Rattle.std.specs.{Prelude.{◌++◌, ℕ, ℤ, List, [], codes, decimal}, Fmt.signed_decimal, List.flat_map}
use Rattle.star_interval.specs.Range.{Range}
use Rattle.star_schema.specs.{declared.column.ColumnId.ColumnId, declared.column.Kind.Kind, declared.table.TableId.TableId, declared.table.TheConstants.TABLES, Schema.column_name, Schema.columns_of, Schema.kind_of, Schema.table_name}
use Rattle.star_schema.specs.declared.column.Kind.TheVariants as kind

unfoldable pub table_line : TableId → ℕ → List ℕ
table_line t rows =
    codes "table " ++ (table_name t ++ (codes " rows " ++ (decimal rows ++ codes "\n")))

unfoldable pub bounds_line : ColumnId → ℤ → ℤ → List ℕ
bounds_line c low high =
    column_name c
    ++ (codes " " ++ (signed_decimal low ++ (codes ".." ++ (signed_decimal high ++ codes "\n"))))

-- the line of a numeric column; a text column has none
abbrev pub column_text : (ColumnId → Range) → ColumnId → Kind → List ℕ
column_text bounds c kind.Number = bounds_line c (bounds c).low (bounds c).high
column_text bounds c kind.Text = []

unfoldable pub table_text : (TableId → ℕ) → (ColumnId → Range) → TableId → List ℕ
table_text sizes bounds t =
    table_line t (sizes t) ++ flat_map (λ c. column_text bounds c (kind_of c)) (columns_of t)

-- the listing of five tables with these row counts and bounds
unfoldable pub listing_text : (TableId → ℕ) → (ColumnId → Range) → List ℕ
listing_text sizes bounds = flat_map (λ t. table_text sizes bounds t) TABLES
