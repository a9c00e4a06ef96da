-- The check of the steps of a body: the result of one step, and its progress.
use Rattle.std.specs.Prelude.{◌≡◌, ◌+◌, ◌≤◌, ◌^◌, ℕ, Bool, List, Option}
use Rattle.star_schema.specs.Sizes.{size_of}
use Rattle.star_program.specs.{declared.body.Step.Step, declared.body.Step.TheVariants.Act, declared.body.Step.TheVariants.Scan, declared.program.Parts.Parts, Code.Code, Code.Each, Code.code_size, CodeOfSteps.code_of_steps, World.World}
use Rattle.star_safety.specs.{Contexts.{Context, after_op, after_scan, at_end, in_scan}, Private.Forward.{first_reason, open_with}, Quote.turns_met, declared.reason.Reason.Reason, Refusals.op_reason, Standing.at_position}
use Rattle.star_verify.specs.{Private.CheckResults.{InEachContext, IsPositionOf, IsReady, KeepsContext, scan_first}, declared.instructions.VerifierState.VerifierState, declared.instructions.Position.Position, declared.input.CheckInput.CheckInput}

-- ---- a step

-- its first refusal, or that of its body, if such code follows
abbrev pub step_first : World → Parts → (ℕ → Bool) → Context → ℕ → Step → Code → Option (ℕ × Reason)
step_first w parts pending x at (Act op) rest =
    at_position at (op_reason w parts (open_with pending rest) x op)
step_first w parts pending x at (Scan table r body) rest =
    scan_first w parts (open_with pending (Each table r body rest)) x at table r body

abbrev pub after_step : World → Parts → Context → Step → Context
after_step w parts x (Act op) = after_op w parts x op
after_step w parts x (Scan table r body) =
    after_scan x (at_end w parts (in_scan w x table r) body)

-- its number of instructions
abbrev pub step_size : Step → ℕ
step_size (Act op) = 1
step_size (Scan table r body) = 1 + code_size body

-- ---- progress

-- the first refusal of some code is that of this suffix, in the context there
pub record IsRest (w : World) (parts : Parts) (pending : ℕ → Bool) (x : Context) (at : ℕ)
    (all : Code) (there : Context) (now : ℕ) (rest : Code) : Type 0 where
  pub first : first_reason w parts pending x at all ≡ first_reason w parts pending there now rest
  pub after : at_end w parts x all ≡ at_end w parts there rest

-- the input of the check of a body
pub record GivenSteps : Type 0 where
  pub input : CheckInput
  pub position : Position
  pub state : VerifierState
  pub steps : List Step

-- these steps remain, from the instruction with this number on, with the state there
pub record AreRemainingSteps (given : GivenSteps) (state : VerifierState) (at : ℕ)
    (left : List Step) : Type 0 where
  pub past : given.position.at ≤ at
  pub size : at + code_size (code_of_steps left)
      ≡ given.position.at + code_size (code_of_steps given.steps)
  pub turns : turns_met (size_of given.input.facts.now.sizes) given.position.met
      (code_of_steps left) ≤ 10 ^ 15
  pub ready : IsReady given.input.parts.now (record given.position { at = at }) state
  pub kept : InEachContext given.input given.position given.state
      (λ w x pending. (there : Context) × KeepsContext given.input.parts.now state there
      × IsPositionOf given.position there
      × IsRest w given.input.parts.now pending x given.position.at
      (code_of_steps given.steps) there at (code_of_steps left))
