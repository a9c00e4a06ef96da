-- How a walk ends, in the words of the definitions.
use Rattle.std.specs.Prelude.{◌≡◌, ◌≤◌, ◌+◌, ◌*◌, ℕ, Bool, true, List, Option, length, nat_lt, Result, MatchResult}
use Rattle.star_schema.specs.Database.{Database, rows_in}
use Rattle.star_program.specs.{Run.{End, Ended, begin, meaning, scans, turns}, declared.program.Parts.Parts, Code.Code, Effects.State, Values.{Registers, with_entry}, declared.value.Value.TheVariants.Row, declared.value.Value.Value}
use Rattle.star_trial.specs.{declared.fault.Stop.Stop, declared.fault.TrialFault.TrialFault, declared.machine.Machine.Machine, declared.machine.Scanned.Scanned, Private.Runs.HasDone, Private.Runs.Run, Private.Views.registers_view, Trials.IsFaultOfEnd}
use Rattle.star_outcome.specs.Sound.{AreSound}
use Rattle.star_world.specs.WorldOf.{world_of}
use Rattle.star_trial.specs.declared.fault.Stop.TheVariants as stop
use Rattle.star_trial.specs.declared.fault.TrialFault.TheVariants as fault

pub record Finishes (database : Database) (parts : Parts) (run : Run) (end : End) : Type 0 where
  pub s : State
  pub is : end ≡ Ended s
  pub done : HasDone database parts run s

-- Ok with the final state if the run comes to its end, else the trap or the limit
abbrev pub IsEnd : Database → Parts → Run → End → Result (Unit {0}) TrialFault → Type 0
IsEnd database parts run end result =
    MatchResult result (λ _. Finishes database parts run end) (IsFaultOfEnd end)

-- the rest of a body, from an instruction on
abbrev pub means : Machine → Code → ℕ → Bool → Registers → State → End
means m code at inside registers s =
    meaning (world_of m.catalogue.now) m.parts.now (λ visits. nat_lt visits m.most) code at
    inside registers s

-- the body of a scan at a row, with the registers before the scan
abbrev pub means_at : Machine → Scanned → Registers → Value → State → End
means_at m scan before row s =
    means m scan.body.now (scan.at + 1) true (with_entry before scan.target row) s

abbrev pub means_turn : Machine → Scanned → Registers → Value → State → End
means_turn m scan before row s = begin (nat_lt s.visits m.most) s (means_at m scan before row)

abbrev pub means_turns : Machine → Scanned → Registers → State → End
means_turns m scan before s =
    turns (λ visits. nat_lt visits m.most) (length (rows_in m.catalogue.now scan.table)) 0
    (λ row. means_at m scan before (Row scan.table row)) s

abbrev pub means_scan : Machine → Scanned → Registers → State → End
means_scan m scan before s =
    scans scan.at (nat_lt scan.target m.parts.now.registers) (λ _. means_turns m scan before s)

-- a run has done something
abbrev pub HasRun : Machine → Run → Type 0
HasRun m run = (s : State) × HasDone m.catalogue.now m.parts.now run s

-- the effects before, and then those of this
abbrev pub Does : Machine → Run → Run → (State → End) → Result (Unit {0}) TrialFault → Type 0
Does m old new meant result =
    (s : State) → HasDone m.catalogue.now m.parts.now old s
    → IsEnd m.catalogue.now m.parts.now new (meant s) result

abbrev pub fault_at : ℕ → Stop → TrialFault
fault_at at stop.OutOfMemory = fault.OutOfMemory
fault_at at (stop.Trap kind) = fault.Trap at kind

-- ---- how much work there can be: a turn has at most 4,096 instructions

abbrev pub work : Run → ℕ
work run = run.lookups + run.updates

-- the work so far, and `instructions` more, is no more than 4,096 a visit and 4,096 outside scans
pub record IsFew (most : ℕ) (run : Run) (instructions : ℕ) : Type 0 where
  pub visits : run.visits ≤ most
  pub work : work run + instructions ≤ 4096 * run.visits + 4096

-- a walk over `instructions` more, with scans nested `depth` deep, may go on from here: these
-- registers hold sound values, the frames have room, and the run has done something, and not too
-- much
pub record IsWalkReady (m : Machine) (registers frames : List (Option Value)) (run : Run)
    (depth instructions : ℕ) : Type 0 where
  pub wide : length registers ≡ m.parts.now.registers
  pub deep : depth * m.parts.now.registers ≤ length frames
  pub few : IsFew m.most run instructions
  pub sound : AreSound m.catalogue.now (registers_view registers)
  pub done : HasRun m run

-- the work of `instructions` instructions and of the turns of the scans among them
pub record HasWorked (most : ℕ) (old new : Run) (instructions : ℕ) : Type 0 where
  pub visits : new.visits ≤ most
  pub more : old.visits ≤ new.visits
  pub work : work new + 4096 * old.visits ≤ work old + instructions + 4096 * new.visits
