-- The row counts and column bounds that the check of a program needs.
use Rattle.std.specs.Prelude.{◌≡◌, ◌<◌, ℕ, List, slice_index_or}
use Rattle.star_schema.specs.{declared.column.ColumnId.ColumnId, declared.table.TableId.TableId, Schema.index_of, Sizes.size_of}
use Rattle.star_interval.specs.{declared.Interval.Interval, Interval.range_of}
use Rattle.star_program.specs.World.{World}
use Rattle.star_verify.specs.declared.facts.Facts.{Facts}

-- they are those of a world
pub record AreFacts (w : World) (facts : Facts) : Type 0 where
  pub sizes : (t : TableId) → size_of facts.sizes t ≡ w.size t
  pub bounds : (c : ColumnId) (i : Interval) → i ≡ slice_index_or facts.bounds (index_of c) i
      → range_of i ≡ w.bounds c

-- the bounds of the columns before a position among all are those of a world
abbrev pub AreBoundsBefore : World → List Interval → ℕ → Type 0
AreBoundsBefore w bounds index =
    (c : ColumnId) (i : Interval) → index_of c < index
    → i ≡ slice_index_or bounds (index_of c) i → range_of i ≡ w.bounds c
