-- What one instruction did.
use Rattle.std.specs.Prelude.{◌≡◌, ◌≤◌, ◌<◌, ◌+◌, ◌^◌, ℕ, List, Option, length, Result, MatchResult, OnOk}
use Rattle.star_schema.specs.Database.{Database}
use Rattle.star_program.specs.{Effects.{State, Effect, GoesOn, EndsTurn, Traps}, declared.program.Parts.Parts, Values.{Registers, with_entry}, declared.op.Op.Op, declared.op.Operation.Operation, declared.value.Value.Value, Private.Doing.{assigns, does}}
use Rattle.star_outcome.specs.{declared.flow.Flow.Flow, Sound.AreSound, Sound.IsSoundValue}
use Rattle.star_trial.specs.{declared.fault.Stop.Stop, declared.machine.Machine.Machine, Private.Runs.HasDone, Private.Runs.Run, Private.Views.registers_view}
use Rattle.star_world.specs.WorldOf.{world_of}
use Rattle.star_outcome.specs.declared.flow.Flow.TheVariants as flow
use Rattle.star_trial.specs.declared.fault.Stop.TheVariants as stop

-- an effect that sets a register
pub record Sets (database : Database) (parts : Parts) (registers : Registers) (run : Run)
    (target : ℕ) (effect : Effect) (value : Value) : Type 0 where
  pub s : State
  pub does : effect ≡ GoesOn (with_entry registers target value) s
  pub done : HasDone database parts run s
  pub sound : IsSoundValue database value

pub record Goes (database : Database) (parts : Parts) (registers : Registers) (run : Run)
    (effect : Effect) : Type 0 where
  pub s : State
  pub does : effect ≡ GoesOn registers s
  pub done : HasDone database parts run s

pub record Ends (database : Database) (parts : Parts) (run : Run) (effect : Effect) : Type 0 where
  pub s : State
  pub does : effect ≡ EndsTurn s
  pub done : HasDone database parts run s

abbrev pub IsFlow : Database → Parts → Registers → Run → Effect → Flow → Type 0
IsFlow database parts registers run effect flow.GoesOn = Goes database parts registers run effect
IsFlow database parts registers run effect flow.EndsTurn = Ends database parts run effect

-- memory was refused, or the effect is the trap
abbrev pub IsActStopped : Effect → Stop → Type 0
IsActStopped effect stop.OutOfMemory = Unit {0}
IsActStopped effect (stop.Trap kind) = effect ≡ Traps kind

-- the result of an operation with this effect
abbrev pub IsValueMade : Database → Parts → Registers → Run → ℕ → Effect → Result Value Stop
    → Type 0
IsValueMade database parts registers run target effect result =
    MatchResult result (Sets database parts registers run target effect) (IsActStopped effect)

-- the result of an instruction with this effect
abbrev pub IsActed : Database → Parts → Registers → Run → Effect → Result Flow Stop → Type 0
IsActed database parts registers run effect result =
    MatchResult result (IsFlow database parts registers run effect) (IsActStopped effect)

-- ---- an operation, and an instruction, of a machine

-- before it: registers as declared that hold sound values, and a run that has done something, and
-- not too much
pub record CanAct (m : Machine) (registers : List (Option Value)) (run : Run) : Type 0 where
  pub few : run.lookups + run.updates < 2 ^ 63
  pub wide : length registers ≡ m.parts.now.registers
  pub sound : AreSound m.catalogue.now (registers_view registers)
  pub done : (s : State) × HasDone m.catalogue.now m.parts.now run s

-- no turn was begun, and one look-up made at most, or one update
pub record HasWorkedOnce (old new : Run) : Type 0 where
  pub work : new.lookups + new.updates ≤ old.lookups + old.updates + 1
  pub visits : new.visits ≡ old.visits

-- what an operation makes is the value of its effect, whatever its target
abbrev pub Makes : Machine → List (Option Value) → Run → Run → Operation → Result Value Stop
    → Type 0
Makes m registers old new operation result =
    (s : State) (target : ℕ) → HasDone m.catalogue.now m.parts.now old s
    → IsValueMade m.catalogue.now m.parts.now (registers_view registers) new target
    (assigns (world_of m.catalogue.now) m.parts.now
    (registers_view registers) s target operation) result

-- what an instruction does in which nothing is wrong
abbrev pub does_op : Machine → Op → Registers → State → Effect
does_op m op registers s = does (world_of m.catalogue.now) m.parts.now registers s op

-- after an instruction that means this
pub record HasActed (m : Machine) (registers new_registers : List (Option Value)) (run new : Run)
    (meant : Registers → State → Effect) (result : Result Flow Stop) : Type 0 where
  pub does : (s : State) → HasDone m.catalogue.now m.parts.now run s
      → IsActed m.catalogue.now m.parts.now (registers_view new_registers) new
      (meant (registers_view registers) s) result
  pub sound : OnOk result (AreSound m.catalogue.now (registers_view new_registers))
  pub len : length new_registers ≡ length registers
  pub work : HasWorkedOnce run new
