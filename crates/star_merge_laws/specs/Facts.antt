-- The facts that decide the refusals of a query: the row count of lineorder and the bounds of
-- columns.
use Rattle.std.specs.Prelude.{◌≡◌, ◌+◌, ℕ, zero, suc, length}
use Rattle.star_interval.specs.Range.{Range, hull}
use Rattle.star_schema.specs.{declared.column.ColumnId.ColumnId, declared.table.TableId.TheVariants.Lineorder, Columns.bounds_in, Database.Database, Database.rows_in}

-- the row count of lineorder, and the bounds of each column
pub record Facts : Type 0 where
  pub rows : ℕ
  pub bounds : ColumnId → Range

pub record AreFactsOf (database : Database) (facts : Facts) : Type 0 where
  pub rows : facts.rows ≡ length (rows_in database Lineorder)
  pub bounds : (c : ColumnId) → facts.bounds c ≡ bounds_in (rows_in database) c

-- the hull of two ranges, without that of a part that has no rows
abbrev pub hull_of_rows : ℕ → ℕ → Range → Range → Range
hull_of_rows zero n a b = b
hull_of_rows (suc m) zero a b = a
hull_of_rows (suc m) (suc n) a b = hull a b

-- the facts of two parts together
abbrev pub joined_facts : Facts → Facts → Facts
joined_facts a b =
    record {
      rows = a.rows + b.rows;
      bounds = λ c. hull_of_rows a.rows b.rows (a.bounds c) (b.bounds c);
    }
