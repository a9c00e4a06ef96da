use Rattle.std.proofs.Common.{string_bytes}
use Rattle.star_schema.specs.Schema.{columns_of, kind_of}
use Rattle.star_partial.specs.{Contents.bounds_at, Listing.column_text}
use Rattle.star_report.proofs.Parts.{HasGrown}
use Rattle.star_partial.proofs.listing.push_columns.Given as goal

abbrev pub invariant-loop-index : goal.invariant-loop-index
invariant-loop-index l =
    HasGrown (λ column. column_text (bounds_at l.bounds) column (kind_of column))
    (columns_of l.table) l.index (string_bytes l.fn.text) (string_bytes l.text)
