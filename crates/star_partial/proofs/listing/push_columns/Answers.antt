use Rattle.std.proofs.Common.{◌≤◌, List, ℕ, arith, length, string_bytes}
use Rattle.star_schema.specs.{declared.column.ColumnId.ColumnId, Schema.columns_of, Schema.kind_of}
use Rattle.star_partial.specs.{Contents.bounds_at, Listing.column_text}
use Rattle.star_report.proofs.Parts.{all_parts, one_more}
use Rattle.star_partial.proofs.listing.push_columns.Goals as goal

pub loop-index-preserved : goal.loop-index-preserved
loop-index-preserved c =
    let part : ColumnId → List ℕ =
    λ column. column_text (bounds_at c.args.bounds.now) column (kind_of column) in
    rw c.in_ok-push_column.ensures
    (one_more part (columns_of c.args.table) c.loop-index.index c.column_at.result
    (string_bytes c.args.text.now) (string_bytes c.loop-index.text) c.column_at.ensures.at
    c.loop-index.invariant)

pub returns : goal.returns
returns c =
    let part : ColumnId → List ℕ =
    λ column. column_text (bounds_at c.args.bounds.now) column (kind_of column) in
    let past : length (columns_of c.args.table) ≤ c.loop-index.index =
    omega (arith, c.width-index-end.ensures, c.loop-index-test.false) in
    all_parts part (columns_of c.args.table) c.loop-index.index (string_bytes c.args.text.now)
    (string_bytes c.loop-index.text) past c.loop-index.invariant
