-- The rows so far, and the records that the reader has left.
use Rattle.std.proofs.Common.{ℕ, List}
use Rattle.star_schema.specs.{declared.table.TableId.TableId, Tables.Value}
use Rattle.star_reader.specs.{Private.Lines.HasLeft, Private.Steps.HasAdded}
use Rattle.star_reader.proofs.records.read_records.Given as goal

abbrev pub invariant-loop : goal.invariant-loop
invariant-loop l =
    (table : TableId) (before : List (List Value)) (all left : List (List ℕ))
    → HasLeft l.fn.reader left
    → HasAdded table l.most l.start before all left l.start l.fn.columns
    → (lines : List (List ℕ)) × HasLeft l.reader lines
    × HasAdded table l.most l.start before all lines l.rows l.columns
