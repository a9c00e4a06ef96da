-- The result of an open line's end.
use Rattle.std.specs.Prelude.{◌≡◌, ◌≤◌, ◌+◌, ℕ, List, [], None, false, map}
use Rattle.star_schema.specs.{declared.table.TableId.TableId, Records.records_of, Schema.kinds_of}
use Rattle.star_reader.specs.{declared.column.RawColumn.RawColumn, declared.progress.Progress.Progress, Columns.first_rows, Columns.values, Partway.left_fault, Carried.StandsFor, Private.Steps.HasRows}

-- an open line of these bytes has ended, with no fault: its row, if it has one, is in the columns
pub record HasEnded (table : TableId) (most : ℕ) (old : Progress) (bytes : List ℕ)
    (before : List RawColumn) (new : Progress) (after : List RawColumn) : Type 0 where
  pub no_fault : left_fault old.is_start table most (old.rows + 1) bytes ≡ None
  pub rows : HasRows table old.rows (first_rows old.rows (map values before)) (records_of bytes) []
      new.rows after
  pub few : new.rows ≤ most
  pub fresh : StandsFor (kinds_of table) new.line []
  pub behind : new.is_start ≡ false
