-- What partials show: their facts, the rows of their reports, and their counts.
use Rattle.std.specs.Prelude.{◌≡◌, ◌+◌, ℕ, List, [], ◌∷◌, Option, Some, None, length}
use Rattle.star_interval.specs.Range.{Range}
use Rattle.star_schema.specs.{declared.table.TableId.TheVariants.Lineorder, declared.column.ColumnId.ColumnId, declared.table.TableId.TableId, Columns.bounds_in, Database.{Database, rows_in}}
use Rattle.star_program.specs.{declared.outcome.Cell.Cell, declared.outcome.Outcome.Outcome}
use Rattle.star_partial.specs.Contents.{Contents}
use Rattle.star_merge_laws.specs.Parts.{with_lineorder}
use Rattle.star_merger.specs.Private.Shares.{Share}

-- the row counts and the bounds of the tables of a database
pub record HasFacts (database : Database) (counts : TableId → ℕ) (ranges : ColumnId → Range)
    : Type 0 where
  pub sizes : (t : TableId) → counts t ≡ length (rows_in database t)
  pub bounds : (c : ColumnId) → ranges c ≡ bounds_in (rows_in database) c

abbrev pub HasOwnFacts : Database → Share → Type 0
HasOwnFacts database share = HasFacts (with_lineorder database share.rows) share.contents.sizes
    share.contents.bounds

abbrev pub rows_shown : Option Outcome → List (List (List Cell))
rows_shown None = []
rows_shown (Some outcome) = outcome.rows ∷ []

abbrev pub lookups_in : Option Outcome → ℕ
lookups_in None = 0
lookups_in (Some outcome) = outcome.lookups

abbrev pub updates_in : Option Outcome → ℕ
updates_in None = 0
updates_in (Some outcome) = outcome.updates

-- the sum of a count over all partials
abbrev pub counted : (Option Outcome → ℕ) → List Contents → ℕ
counted count [] = 0
counted count (contents ∷ more) = count contents.run + counted count more

-- only a partial without rows of lineorder is refused
abbrev pub IsUsable : Contents → Type 0
IsUsable contents = contents.run ≡ None → contents.sizes Lineorder ≡ 0
