-- What an instruction does, by what was computed for it.
use Rattle.std.{proofs.Common.{◌≡◌, ℕ, ℤ, Bool, true, false, Some, None, Option, refl, sym, subst}, specs.Prelude.{Result, Ok, Err, MatchOption, if◌then◌else◌}}
use Rattle.star_schema.specs.Database.{Database}
use Rattle.star_program.specs.{Effects.{State, Effect, GoesOn, answer_of, fits_register, unless_trap}, declared.op.Operator.Operator, declared.op.Operator.TheVariants.{Add, Sub, Mul, Less}, declared.program.Parts.Parts, Faults.unless, Private.Doing.{fitting, sets_answer}, declared.fault.TrapKind.TheVariants.Overflow, declared.value.Value.Value, declared.value.Value.TheVariants.Number, Values.{Registers, with_entry}}
use Rattle.star_trial.specs.{declared.fault.Stop.Stop, Private.Acts.IsValueMade, Private.Acts.Sets, Private.Runs.HasDone, Private.Runs.Run}
use Rattle.star_outcome.specs.Sound.{IsSoundValue}
use Rattle.star_group.specs.declared.rows.PutFault.TheVariants as memory
use Rattle.star_trial.specs.declared.fault.Stop.TheVariants as stop

answer_sound : (database : Database) (o : Operator) (l r : Option Value)
    → IsSoundValue database (answer_of o l r)
answer_sound database Add l r = tt
answer_sound database Sub l r = tt
answer_sound database Mul l r = tt
answer_sound database Less l r = tt
answer_sound database _ l r = tt

module _ (database : Database) (parts : Parts) (registers : Registers) (run : Run) (s : State)
    (done : HasDone database parts run s) (t : ℕ) where
  pub sets : (effect : Effect) (value : Value) → effect ≡ GoesOn (with_entry registers t value) s
      → IsSoundValue database value → Sets database parts registers run t effect value
  sets effect value does sound = record { s = s; does = does; done = done; sound = sound }

  made : (v : Value) (b : Bool) (result : Result Value Stop) → IsSoundValue database v
      → MatchOption (if b then Some v else None) (result ≡ Err (stop.Trap Overflow))
      (λ value. result ≡ Ok value) → IsValueMade database parts registers run t
      (unless_trap (unless b Overflow) (GoesOn (with_entry registers t v) s)) result
  made v true result sound is =
      subst (IsValueMade database parts registers run t _) (sym is) (sets _ v refl sound)
  made v false result sound is = subst (IsValueMade database parts registers run t _) (sym is) refl

  -- an operator's answer
  pub answer_made : (o : Operator) (l r : Option Value) (answer : Option Value)
      (result : Result Value Stop) → answer ≡ fitting (answer_of o l r)
      → MatchOption answer (result ≡ Err (stop.Trap Overflow)) (λ value. result ≡ Ok value)
      → IsValueMade database parts registers run t (sets_answer registers s t (answer_of o l r))
      result
  answer_made o l r answer result shown is =
      made (answer_of o l r) (fits_register (answer_of o l r)) result (answer_sound database o l r)
      (subst (λ (a : Option Value).
      MatchOption a (result ≡ Err (stop.Trap Overflow)) (λ value. result ≡ Ok value)) shown is)

  -- what a read gives
  pub read_made : (z : ℤ) (answer : Option Value) (result : Result Value Stop)
      → answer ≡ fitting (Number z)
      → MatchOption answer (result ≡ Err (stop.Trap Overflow)) (λ value. result ≡ Ok value)
      → IsValueMade database parts registers run t (sets_answer registers s t (Number z)) result
  read_made z answer result shown is = made (Number z) (fits_register (Number z)) result tt
      (subst (λ (a : Option Value).
      MatchOption a (result ≡ Err (stop.Trap Overflow)) (λ value. result ≡ Ok value)) shown is)
