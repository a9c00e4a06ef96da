-- The result of the check of an instruction, and the state for the next.
use Rattle.std.specs.{Prelude.{◌≡◌, ◌*◌, ◌+◌, ◌≤◌, ◌^◌, ℕ, Bool, length, Option, Some, None, Result, MatchResult}, Option.option_or}
use Rattle.star_common.specs.Memory.{UnlessMemory}
use Rattle.star_schema.specs.declared.table.TableId.{TableId}
use Rattle.star_program.specs.{declared.program.Parts.Parts, Code.Code, World.World}
use Rattle.star_safety.specs.{Contexts.Context, Contexts.at_end, Contexts.at_first, Contexts.in_scan, Admissible.first_refusal, Private.Forward.first_reason, Quote.quote, declared.reason.Reason.Reason, Refusals.scan_reason, Standing.at_position}
use Rattle.star_verify.specs.{Private.Kept.{AreMarked, AreTalliesFew, HasKeyShares, HasShares, flag_at}, declared.check.Accepted.Accepted, declared.instructions.VerifierState.VerifierState, declared.instructions.Position.Position, declared.refusal.Refusal.Refusal, declared.input.CheckInput.CheckInput, Facts.AreFacts, Private.Views.known_in, Views.refusal_view}
use Rattle.star_verify.specs.declared.refusal.Refusal.TheVariants as told

-- this reason at this instruction, or out of memory
abbrev pub IsFirst : Refusal → Option (ℕ × Reason) → Type 0
IsFirst told.OutOfMemory found = Unit {0}
IsFirst (told.Refused at reason) found = found ≡ Some (at, reason)
IsFirst _ found = ⊥

-- ---- the state

-- as many registers as are declared, a flag for each, and eight tallies of aggregates and eight of
-- keys for each of eight groups
pub record IsSized (parts : Parts) (state : VerifierState) : Type 0 where
  pub wide : length state.registers.items ≡ parts.registers
  pub written : length state.written.items ≡ parts.registers
  pub tallies : length state.tallies.items ≡ 64
  pub keys : length state.keys.items ≡ 64

pub record AreRecorded (parts : Parts) (state : VerifierState) (x : Context) : Type 0 where
  pub written : flag_at state.written.items ≡ x.written
  pub shares : HasShares parts state.tallies.items x
  pub keys : HasKeyShares parts state.keys.items x

pub record KeepsContext (parts : Parts) (state : VerifierState) (x : Context) : Type 0 where
  pub known : known_in state.registers.items ≡ x.known
  pub earlier : AreRecorded parts state x

pub record IsPositionOf (position : Position) (x : Context) : Type 0 where
  pub inside : x.inside ≡ position.inside
  pub met : x.met ≡ position.met

-- of at most 10^15 numbers for each instruction so far
abbrev pub AreFewAt : VerifierState → ℕ → Type 0
AreFewAt state at =
    AreTalliesFew state.tallies.items (at * 10 ^ 15) × AreTalliesFew state.keys.items (at * 10 ^ 15)

-- the check may continue at an instruction that is executed no more often than any run may visit
pub record IsReady (parts : Parts) (position : Position) (state : VerifierState) : Type 0 where
  pub met : position.met ≤ 10 ^ 15
  pub sized : IsSized parts state
  pub few : AreFewAt state position.at

-- what holds in each world with these facts, and in each context with the state at this position
abbrev pub InEachContext : CheckInput → Position → VerifierState
    → (World → Context → (ℕ → Bool) → Type 0) → Type 0
InEachContext input position state Holds =
    (w : World) (x : Context) (pending : ℕ → Bool) → AreFacts w input.facts.now
    → KeepsContext input.parts.now state x → IsPositionOf position x
    → AreMarked input.parts.now position.pending pending → Holds w x pending

-- ---- results

-- Ok without a reason, with the state then, otherwise the reason
abbrev pub HasReason : Result (Unit {0}) Refusal → ℕ → Option Reason → Type 0 → Type 0
HasReason result at reason Kept =
    MatchResult result (λ _. (reason ≡ None) × Kept)
    (λ refusal. IsFirst refusal (at_position at reason))

-- Ok if nothing refuses some code, with the state then, otherwise the first refusal
abbrev pub AreStepsChecked : Result ℕ Refusal → Option (ℕ × Reason) → Type 0 → Type 0
AreStepsChecked result first Kept =
    MatchResult result (λ _. (first ≡ None) × Kept) (λ refusal. IsFirst refusal first)

-- the first refusal of a scan or its body
abbrev pub scan_first : World → Parts → (ℕ → Bool) → Context → ℕ → TableId → ℕ → Code
    → Option (ℕ × Reason)
scan_first w parts pending x at table r body =
    option_or (at_position at (scan_reason parts x r))
    (first_reason w parts pending (in_scan w x table r) (at + 1) body)

-- ---- a whole program

-- Ok with its quote and facts about the keys of its groups, in 64 tallies, if nothing refuses
-- it; otherwise the first refusal, or out of memory
abbrev pub IsChecked : Result Accepted Refusal → World → ℕ → Parts → Type 0
IsChecked result w most parts =
    MatchResult result
    (λ accepted. (first_refusal w most parts ≡ None)
    × (accepted.visits ≡ quote w.size parts)
    × (length accepted.keys.items ≡ 64)
    × HasKeyShares parts accepted.keys.items (at_end w parts at_first parts.body))
    (λ refusal. UnlessMemory told.OutOfMemory refusal
    (first_refusal w most parts ≡ refusal_view refusal))
