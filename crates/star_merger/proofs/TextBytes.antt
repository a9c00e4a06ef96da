-- The texts that are written have a byte.
use Rattle.std.proofs.Common.{◌<◌, ℕ, List, arith, length}
use Rattle.star_partial.specs.{Contents.Contents, Text.head_text, Text.partial_text, Text.query_text}
use Rattle.star_program.specs.declared.outcome.Cell.{Cell}
use Rattle.star_report.specs.Report.{report_text}
use Rattle.star_engine.{specs.Notes.{counts_line, quote_line}, proofs.Trials.report_some}

pub counts_some : (visits lookups updates : ℕ) → 0 < length (counts_line visits lookups updates)
unfolding counts_line
counts_some visits lookups updates = omega arith

pub partial_some : (query : List ℕ) (contents : Contents) → 0 < length (partial_text query contents)
unfolding partial_text query_text head_text
partial_some query contents = omega arith

pub some_report : (names : List (List ℕ)) (rows : List (List Cell))
    → 0 < length (report_text names rows)
some_report names rows = report_some names rows

pub quote_some : (visits : ℕ) → 0 < length (quote_line visits)
unfolding quote_line
quote_some visits = omega arith
