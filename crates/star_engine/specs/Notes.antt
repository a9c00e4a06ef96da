-- The notes of a run.
use Rattle.std.specs.Prelude.{◌++◌, ℕ, List, codes, decimal}
unfoldable pub use Rattle.star_partial.specs.Counts.{counts_line}

-- the quote
unfoldable pub quote_line : ℕ → List ℕ
quote_line visits = codes "quote " ++ (decimal visits ++ codes "\n")

-- the quote, and the maximum number of rows of the report
unfoldable pub forecast_line : (visits rows : ℕ) → List ℕ
forecast_line visits rows =
    codes "quote " ++ (decimal visits ++ (codes " rows " ++ (decimal rows ++ codes "\n")))
