-- The program of a question: that of the query that a text means, or the program that a file
-- spells.
use Rattle.std.specs.Prelude.{◌≡◌, ℕ, List, Bool, true, false}
use Rattle.star_plan.specs.Meaning.{Plan}
use Rattle.star_program.specs.declared.program.Parts.{Parts}
use Rattle.star_compile_laws.specs.Compiled.{compiled}
use Rattle.star_engine.specs.{declared.question.Question.Question, Loads.IsProgramOf, Queries.IsPlanOf}

-- the program of the query that a text means
pub record IsProgramOfQuery (text : List ℕ) (program : Parts) : Type 0 where
  pub p : Plan
  pub meant : IsPlanOf text p
  pub made : program ≡ compiled p

-- the program of a file that is taken for a program or for a query
abbrev pub IsProgramOfKind : (is_program : Bool) → (file : List ℕ) → Parts → Type 0
IsProgramOfKind true file program = IsProgramOf file program
IsProgramOfKind false file program = IsProgramOfQuery file program

-- the question of such a file
abbrev pub Asks : (is_program : Bool) → (file : List ℕ) → Question → Type 0
Asks is_program file question = IsProgramOfKind is_program file question.program
