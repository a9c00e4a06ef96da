-- The columns of a table at their positions.
use Rattle.std.proofs.{Common.{◌≡◌, ◌∙◌, ℕ, map, get_or, sym, ap}, Math.ListN.get_or-map}
use Rattle.star_schema.{specs.declared.column.ColumnId.ColumnId, specs.Schema.{kind_of, position_of, table_of}, proofs.KeyColumns.kind_at_index}
use Rattle.star_reader.proofs.ColumnLemmas.{IsColumnAt, column_at as column_read_at}
use Rattle.star_catalogue.specs.{declared.columns.Column.Column, declared.table.LoadedTable.TheInside.Inside, Private.Columns.as_read, Private.Kept.IsKept}

-- what is kept of a column
abbrev pub IsKeptAs : Inside → ColumnId → Column → Type 0
IsKeptAs kept c column =
    IsColumnAt kept.rows (map as_read kept.columns.items) (position_of c) (kind_of c)
    (as_read column)

-- a column at its position is the one that was read there
pub column_at : {kept : Inside} (c : ColumnId) {index : ℕ} {column : Column} → IsKept kept
    → table_of c ≡ kept.table → index ≡ position_of c
    → column ≡ get_or kept.columns.items index column → IsKeptAs kept c column
column_at {kept} c {index} {column} h of_table at is =
    column_read_at h.columns (rw (← of_table) (kind_at_index c))
    (ap as_read is ∙ sym (get_or-map as_read kept.columns.items index column)
    ∙ ap (λ p. get_or (map as_read kept.columns.items) p (as_read column)) at)
