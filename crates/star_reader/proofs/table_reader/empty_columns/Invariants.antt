use Rattle.std.proofs.Common.{◌≡◌, map, take, All, length}
use Rattle.star_schema.specs.Schema.{kinds_of}
use Rattle.star_reader.specs.Columns.{raw_kind, values}
use Rattle.star_reader.proofs.table_reader.empty_columns.Given as goal

abbrev pub invariant-loop-index : goal.invariant-loop-index
invariant-loop-index l =
    (map raw_kind l.empty.items ≡ take l.index (kinds_of l.fn.table))
    × All (λ column. length (values column) ≡ 0) l.empty.items
