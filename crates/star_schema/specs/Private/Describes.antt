-- The code's entry of a column, compared with the schema's.
use Rattle.std.specs.Prelude.{◌≡◌}
use Rattle.star_schema.specs.{declared.column.Column.Column as Kept, Schema.Column}

pub record Describes (kept : Kept) (column : Column) : Type 0 where
  pub name : kept.name.now ≡ column.name
  pub table : kept.table ≡ column.table
  pub kind : kept.kind ≡ column.kind
  pub references : kept.references ≡ column.references
