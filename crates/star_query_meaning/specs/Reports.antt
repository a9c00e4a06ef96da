-- The report for the bytes of a query over the rows of five tables.
use Rattle.std.specs.Prelude.{◌≡◌, ℕ, List}
use Rattle.star_schema.specs.Database.{Database, rows_in}
use Rattle.star_query.specs.{Derives.Means, Tree.Tree}
use Rattle.star_plan.specs.WellNamed.{IsWellNamed}
use Rattle.star_program.specs.declared.outcome.Cell.{Cell}
use Rattle.star_report.specs.Report.{report_text}
use Rattle.star_query_meaning.specs.Answers.{IsAnswer}

-- the text means a query that is well named, and the report is its printed answer over these rows
pub record IsReport (database : Database) (query report : List ℕ) : Type 0 where
  pub tree : Tree
  pub means : Means query tree
  pub named : IsWellNamed tree
  pub names : List (List ℕ)
  pub rows : List (List Cell)
  pub answer : IsAnswer (rows_in database) tree names rows
  pub printed : report ≡ report_text names rows
