-- The rows of the lines so far.
use Rattle.std.{proofs.Common.{◌++◌, ℕ, List, drop}, specs.Prelude.filter}
use Rattle.csv.specs.Records.{fields_of as fields_read}
use Rattle.star_schema.specs.{declared.table.TableId.TableId, Records.is_filled, Tables.Value}
use Rattle.star_reader.specs.Private.Steps.{HasAdded}
use Rattle.star_reader.proofs.records.add_lines.Given as goal

abbrev pub invariant-loop-index : goal.invariant-loop-index
invariant-loop-index l =
    (table : TableId) (from : ℕ) (before : List (List Value)) (all rest : List (List ℕ))
    → HasAdded table l.most from before all (filter is_filled (fields_read l.lines) ++ rest) l.start
    l.fn.columns
    → HasAdded table l.most from before all
    (filter is_filled (drop l.index (fields_read l.lines)) ++ rest) l.rows l.columns
