-- The run of a query's program.
use Rattle.std.specs.Prelude.{◌≤◌, ℕ, List}
use Rattle.star_schema.specs.Database.{Database}
use Rattle.star_plan.specs.Meaning.{Plan}
use Rattle.star_program.specs.{declared.outcome.Outcome.Outcome, Effects.State, Outcome.IsOutcome}
use Rattle.star_report.specs.Report.{report_text}
use Rattle.star_world.specs.WorldOf.{world_of}
use Rattle.star_query_meaning.specs.Reports.{IsReport}
use Rattle.star_compile_laws.specs.Compiled.{compiled}
use Rattle.star_engine.specs.Queries.{fact_rows}

-- the printed form of a run that ended is the report of the query's text
abbrev pub PrintsTheReport : Database → (query : List ℕ) → Plan → State → Type 0
PrintsTheReport database query p s =
    (outcome : Outcome) → IsOutcome (world_of database) (compiled p) s outcome
    → IsReport database query (report_text outcome.names outcome.rows)

-- and at most as many rows were visited as lineorder has
pub record HasReported (database : Database) (query : List ℕ) (p : Plan) (s : State) : Type 0 where
  pub visits : s.visits ≤ fact_rows database
  pub printed : PrintsTheReport database query p s
