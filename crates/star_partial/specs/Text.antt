-- The text of a partial.
use Rattle.std.specs.{Prelude.{◌++◌, ℕ, List, Option, Some, None, codes, decimal, length}, Fmt.signed_decimal}
use Rattle.hex.specs.Hex.{encode_lower}
use Rattle.star_program.specs.declared.outcome.Outcome.{Outcome}
use Rattle.star_report.specs.Report.{report_text}
use Rattle.star_partial.specs.{declared.partial.Span.Span, Contents.Contents, Counts.counts_line, Listing.listing_text}

-- the version of the format, and the length of the query
unfoldable pub head_text : ℕ → List ℕ
head_text count = codes "star partial 1\nquery " ++ (decimal count ++ codes "\n")

-- the query
unfoldable pub query_text : List ℕ → List ℕ
query_text query = head_text (length query) ++ (query ++ codes "\n")

-- the digest of the dimensions
unfoldable pub digest_line : List ℕ → List ℕ
digest_line digest = codes "dimensions " ++ (encode_lower digest ++ codes "\n")

-- the least and the greatest key, each an lo_orderkey and an lo_linenumber
unfoldable pub span_line : Option Span → List ℕ
span_line None = codes "keys none\n"
span_line (Some span) =
    codes "keys "
    ++ (signed_decimal span.low.order
    ++ (codes " "
    ++ (signed_decimal span.low.line
    ++ (codes " "
    ++ (signed_decimal span.high.order
    ++ (codes " " ++ (signed_decimal span.high.line ++ codes "\n")))))))

unfoldable pub rows_line : ℕ → List ℕ
rows_line rows = codes "rows " ++ (decimal rows ++ codes "\n")

-- the counts of a run, the number of its rows, and its report
unfoldable pub run_text : Option Outcome → List ℕ
run_text None = codes "refused\n"
run_text (Some outcome) =
    counts_line outcome.visits outcome.lookups outcome.updates
    ++ (rows_line (length outcome.rows) ++ report_text outcome.names outcome.rows)

-- the text of a partial of a query
unfoldable pub partial_text : List ℕ → Contents → List ℕ
partial_text query contents =
    query_text query
    ++ (digest_line contents.digest
    ++ (span_line contents.span
    ++ (listing_text contents.sizes contents.bounds ++ run_text contents.run)))
