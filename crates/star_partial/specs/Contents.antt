-- The contents of a partial.
use Rattle.std.specs.Prelude.{ℕ, List, Option, Some, None, pos, slice_get}
use Rattle.star_interval.specs.{Range.{Range, only}, Interval.range_of, declared.Interval.Interval}
use Rattle.star_schema.specs.{declared.{column.ColumnId.ColumnId, table.TableId.TableId}, Schema.index_of, Sizes.size_of}
use Rattle.star_program.specs.declared.outcome.Outcome.{Outcome}
use Rattle.star_partial.specs.declared.partial.{Partial.Partial, Span.Span}

-- a digest of the dimensions, the span of lineorder's keys, the row counts of five tables, the
-- bounds of their columns, and the outcome of the plain program, if it isn't refused
pub record Contents : Type 0 where
  pub digest : List ℕ
  pub span : Option Span
  pub sizes : TableId → ℕ
  pub bounds : ColumnId → Range
  pub run : Option Outcome

abbrev pub range_if : Option Interval → Range
range_if None = only (pos 0)
range_if (Some i) = range_of i

-- the bounds of each column, from a list in the order of columns
abbrev pub bounds_at : List Interval → ColumnId → Range
bounds_at bounds c = range_if (slice_get bounds (index_of c))

abbrev pub contents_of : Partial → Contents
contents_of partial =
    record {
      digest = partial.digest;
      span = partial.span;
      sizes = size_of partial.sizes;
      bounds = bounds_at partial.bounds;
      run = partial.run;
    }
