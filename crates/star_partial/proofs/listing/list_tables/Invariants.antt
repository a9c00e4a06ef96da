use Rattle.std.proofs.Common.{[], string_bytes}
use Rattle.star_schema.specs.{declared.table.TheConstants.TABLES, Sizes.size_of}
use Rattle.star_partial.specs.{Contents.bounds_at, Listing.table_text}
use Rattle.star_report.proofs.Parts.{HasGrown}
use Rattle.star_partial.proofs.listing.list_tables.Given as goal

abbrev pub invariant-loop-table : goal.invariant-loop-table
invariant-loop-table l =
    HasGrown (λ table. table_text (size_of l.sizes) (bounds_at l.bounds) table) TABLES
    l.table-index [] (string_bytes l.text)
