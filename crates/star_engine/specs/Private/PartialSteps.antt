-- What the laws say of the plain program of a query.
use Rattle.std.specs.{Prelude.{◌≡◌, ◌↔◌, ℕ, ℤ, true, List, MatchOption, Option}, Ordering.is_le}
use Rattle.star_schema.specs.Database.{Database}
use Rattle.star_plan.specs.Meaning.{Plan}
use Rattle.star_program.specs.{declared.outcome.Outcome.Outcome, declared.program.Parts.Parts, Run.run_of}
use Rattle.star_outcome.specs.Yields.{Yields}
use Rattle.star_world.specs.WorldOf.{world_of}
use Rattle.star_compile_laws.specs.Compiled.{compiled}
use Rattle.star_merge_laws.specs.{Parts.key_list_cmp, Plain.plain_plan}
use Rattle.star_engine.specs.{Executions.IsAcceptedWithin, Partials.IsPlainOutcome, Queries.FitsRows, Queries.IsPlanOf}

pub record HasPlainProgramLaws (most : ℕ) (database : Database) (query : List ℕ) (p : Plan)
    (meant : IsPlanOf query p) : Type 0 where
  pub accepted : FitsRows most database query
      ↔ IsAcceptedWithin database most (compiled (plain_plan p))
  pub ran : (outcome : Outcome) → Yields (world_of database) (compiled (plain_plan p))
      (run_of (world_of database) (compiled (plain_plan p))) outcome
      → IsPlainOutcome database query p meant outcome

-- the outcome of a program over tables, if nothing refuses it
abbrev pub IsRunIfAccepted : ℕ → Database → Parts → Option Outcome → Type 0
IsRunIfAccepted most database program run =
    MatchOption run (¬ IsAcceptedWithin database most program) (λ outcome.
    IsAcceptedWithin database most program
    × Yields (world_of database) program (run_of (world_of database) program) outcome)

-- the plain program of a query
pub record IsPlainProgram (query : List ℕ) (program : Parts) : Type 0 where
  pub p : Plan
  pub meant : IsPlanOf query p
  pub made : program ≡ compiled (plain_plan p)

-- a key is no greater than another
abbrev pub IsUpTo : List ℤ → List ℤ → Type 0
IsUpTo a b = is_le (key_list_cmp a b) ≡ true
