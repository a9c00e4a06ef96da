-- The result of a program over loaded tables.
use Rattle.std.specs.Prelude.{◌≡◌, ℕ, Bool, true, false, List}
use Rattle.star_schema.specs.Database.{Database}
use Rattle.star_program.specs.declared.program.Parts.{Parts}
use Rattle.star_verify.specs.declared.refusal.Refusal.{Refusal}
use Rattle.star_engine.specs.{Bench.refusal_line, Executions.IsProgramRun, Executions.IsRefusal, WithNotes.RunText}

-- the report of its run, or its refusal
abbrev pub IsRunFound : Database → ℕ → Parts → (fits : Bool) → List ℕ → Type 0
IsRunFound database most program true text =
    (run : RunText) × IsProgramRun database most program run × (text ≡ run.report)
IsRunFound database most program false text =
    (refusal : Refusal) × IsRefusal database most program refusal × (text ≡ refusal_line refusal)
