-- Which queries fit over five tables: by the bounds of their columns and the number of lineorder's
-- rows only.
use Rattle.std.specs.{Prelude.{◌≡◌, ◌≤◌, ℕ, true, length, pos}, List.list_all, Option.option_map_or}
use Rattle.star_schema.specs.{declared.table.TableId.TheVariants.Lineorder, Columns.bounds_in}
use Rattle.star_interval.specs.Range.{Range, only}
use Rattle.star_query.specs.Tree.{Name, Tree}
use Rattle.star_plan.specs.{Fits.Fits, Fits.measure_fits, Meaning.Plan, Meaning.Tables, Names.column_at, Resolved.measures_of}

-- the bounds of the column with this name; a well named query has no other names
abbrev pub range_named : Tables → Name → Range
range_named ts n = option_map_or (bounds_in ts) (column_at n) (only (pos 0))

-- a query fits tables: lineorder has no more rows than may be visited, and of each aggregate each
-- node has its range in 64 bits
pub record FitsTables (most : ℕ) (ts : Tables) (q : Tree) : Type 0 where
  pub visits : length (ts Lineorder) ≤ most
  pub nodes : list_all (measure_fits (range_named ts)) (measures_of q.items) ≡ true

-- the same of a plan
abbrev pub PlanFitsTables : (most : ℕ) → Tables → Plan → Type 0
PlanFitsTables most ts p = Fits (length (ts Lineorder)) most (bounds_in ts) p
