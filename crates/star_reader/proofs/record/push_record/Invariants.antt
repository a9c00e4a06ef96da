use Rattle.std.proofs.Common.{length, map}
use Rattle.csv.specs.Records.{fields_of as fields_read}
use Rattle.star_schema.specs.Tables.{cells_of}
use Rattle.star_reader.specs.{Columns.raw_kind, Private.Steps.HasPushed}
use Rattle.star_reader.proofs.record.push_record.Given as goal

abbrev pub invariant-loop-index : goal.invariant-loop-index
invariant-loop-index l =
    HasPushed l.at_row (map raw_kind l.fn.columns)
    (cells_of (length (map raw_kind l.fn.columns)) (fields_read l.line)) l.index l.fn.columns
    l.columns
