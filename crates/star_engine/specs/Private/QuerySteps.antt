-- The laws about the program of a query.
use Rattle.std.specs.{Prelude.{◌≡◌, ◌≤◌, ◌<◌, ◌↔◌, ℕ, List, Some}, Option.option_map}
use Rattle.star_schema.specs.{Database.Database, Database.rows_in, Columns.bounds_in}
use Rattle.star_plan.specs.Meaning.{Plan}
use Rattle.star_program.specs.{Effects.State, Run.Ended, Run.run_of}
use Rattle.star_safety.specs.Admissible.{Refused, TooCostly, first_refusal}
use Rattle.star_world.specs.WorldOf.{world_of}
use Rattle.star_compile_laws.specs.{Compiled.compiled, Counts.HasCounted, Judged.IsOverflow, Wide.turn_wide}
use Rattle.star_engine.specs.{Executions.IsAcceptedWithin, Executions.quote_over, Queries.FitsRows, Queries.IsPlanOf, Queries.fact_rows, QueryRuns.PrintsTheReport}

-- the laws about the program of a query over the rows of five tables
pub record HasProgramLaws (most : ℕ) (database : Database) (query : List ℕ)
    (p : Plan) : Type 0 where
  pub accepted : FitsRows most database query ↔ IsAcceptedWithin database most (compiled p)
  pub costly : most < fact_rows database → first_refusal (world_of database) most (compiled p)
      ≡ Some (TooCostly (fact_rows database))
  pub wide : fact_rows database ≤ most → ¬ FitsRows most database query
      → IsOverflow (first_refusal (world_of database) most (compiled p))
  pub quoted : quote_over database (compiled p) ≡ fact_rows database
  pub printed : (s : State) → run_of (world_of database) (compiled p) ≡ Ended s
      → PrintsTheReport database query p s
  pub first : fact_rows database ≤ most → first_refusal (world_of database) most (compiled p)
      ≡ option_map Refused (turn_wide (bounds_in (rows_in database)) p)
  pub counted : (s : State) → run_of (world_of database) (compiled p) ≡ Ended s
      → (meant : IsPlanOf query p) → HasCounted (rows_in database) meant.tree p s
