-- The maximum number of rows of a table, and the maximum number of visits of a run.
use Rattle.std.specs.Prelude.{◌^◌, ℕ}

abbrev pub most_rows : ℕ
most_rows = 10 ^ 9

abbrev pub most_visits : ℕ
most_visits = 10 ^ 15
