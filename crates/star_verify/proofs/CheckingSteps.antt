-- What is first of the steps of a body, one step after another.
use Rattle.std.proofs.Common.{◌≡◌, ◌+◌, ◌-◌, ◌≤◌, ◌<◌, ℕ, Bool, List, [], ◌∷◌, length, take, drop, get_or, Option, Some, None, Result, arith, refl, ap, sym, subst, ◌∙◌}
use Rattle.star_verify.proofs.{Common.{Act, AreFewAt, AreRecorded, AreRemainingSteps, AreStepsChecked, Code, Context, Each, GivenSteps, InEachContext, IsFirst, IsPositionOf, IsSized, KeepsContext, Op, Parts, Position, Reason, Refusal, Scan, Step, Stop, TableId, VerifierState, World, after_op, after_scan, after_step, at_end, at_position, before, code_of_steps, code_puts_to, code_size, first_reason, in_scan, op_reason, open_with, option_or, scan_first, size_of, step_first, step_size, turns_met, ◌||◌}, Firsts.first_and_others}
use Rattle.star_verify.specs.declared.refusal.Refusal.TheVariants as told
use Rattle.star_verify.proofs.Marks.{or_assoc as either_assoc}

-- ---- the first step

abbrev pub others : List Step → List Step
others steps = take (length steps - 1) (drop 1 steps)

pub code_first : (steps : List Step) (step : Step) → 1 ≤ length steps → step ≡ get_or steps 0 step
    → code_of_steps steps ≡ before step (code_of_steps (others steps))
code_first steps step some is = sym (ap code_of_steps (first_and_others steps step some))
    ∙ ap (λ s. before s (code_of_steps (others steps))) (sym is)

pub size_first : (step : Step) (rest : Code)
    → code_size (before step rest) ≡ step_size step + code_size rest
size_first (Act op) rest = refl
size_first (Scan table r body) rest = refl

pub turns_after : (size : TableId → ℕ) (met : ℕ) (step : Step) (rest : Code)
    → turns_met size met rest ≤ turns_met size met (before step rest)
turns_after size met (Act op) rest = omega arith
turns_after size met (Scan table r body) rest = omega arith

-- ---- what is first

pub first_of : (refusal : Refusal) (p q : Option (ℕ × Reason)) → IsFirst refusal p
    → IsFirst refusal (option_or p q)
first_of it p q h = grind arith

or_assoc : {A : Type 0} (p q r : Option A)
    → option_or (option_or p q) r ≡ option_or p (option_or q r)
or_assoc None q r = refl
or_assoc (Some a) q r = refl

module _ (w : World) (parts : Parts) (pending : ℕ → Bool) (x : Context) (at : ℕ) where
  pub first_step : (step : Step) (rest : Code)
      → first_reason w parts pending x at (before step rest)
      ≡ option_or (step_first w parts pending x at step rest)
      (first_reason w parts pending (after_step w parts x step) (at + step_size step) rest)
  first_step it rest = grind (arith, before, or_assoc, at_position)

  end_first : (step : Step) (rest : Code)
      → at_end w parts x (before step rest) ≡ at_end w parts (after_step w parts x step) rest
  end_first (Act op) rest = refl
  end_first (Scan table r body) rest = refl

still_placed : (w : World) (parts : Parts) (position : Position) (x : Context) (step : Step)
    → IsPositionOf position x → IsPositionOf position (after_step w parts x step)
still_placed w parts position x (Act op) is = record { inside = is.inside; met = is.met }
still_placed w parts position x (Scan table r body) is = record { inside = is.inside; met = is.met }

-- ---- what a step is answered

module _ (w : World) (parts : Parts) (pending : ℕ → Bool) (x : Context) (at : ℕ) (step : Step)
    (rest : Code) (state : VerifierState) where
  pub act_walked : (op : Op) → step ≡ Act op
      → op_reason w parts (open_with pending rest) x op ≡ None
      → KeepsContext parts state (after_op w parts x op)
      → (step_first w parts pending x at step rest ≡ None)
      × KeepsContext parts state (after_step w parts x step)
  act_walked op is none kept =
      subst (λ s. (step_first w parts pending x at s rest ≡ None)
      × KeepsContext parts state (after_step w parts x s)) (sym is) (ap (at_position at) none, kept)

  pub scan_walked : (result : Result ℕ Refusal) (table : TableId) (r : ℕ) (body : Code)
      → step ≡ Scan table r body → AreStepsChecked result
      (scan_first w parts (open_with pending (Each table r body rest)) x at table r body)
      (KeepsContext parts state (after_scan x (at_end w parts (in_scan w x table r) body)))
      → AreStepsChecked result (step_first w parts pending x at step rest)
      (KeepsContext parts state (after_step w parts x step))
  scan_walked result table r body is h =
      subst (λ s. AreStepsChecked result (step_first w parts pending x at s rest)
      (KeepsContext parts state (after_step w parts x s))) (sym is) h

-- what the body of a scan and the steps after it put to is open, or was open already
pub opened_in : (g : ℕ) (pending : ℕ → Bool) (table : TableId) (r : ℕ) (body rest body_as : Code)
    (old inner outer : Bool) → outer ≡ inner || code_puts_to g rest
    → inner ≡ old || code_puts_to g body_as → body_as ≡ body → old ≡ pending g
    → outer ≡ open_with pending (Each table r body rest) g
opened_in g pending table r body rest body_as old inner outer e f is same =
    e ∙ ap (λ b. b || code_puts_to g rest) (f ∙ ap (λ c. old || code_puts_to g c) is
    ∙ ap (λ b. b || code_puts_to g body) same)
    ∙ either_assoc (pending g) (code_puts_to g body) (code_puts_to g rest)

-- ---- how far a given is

-- what the given of a step answers where nothing refuses it
abbrev IsStepped : GivenSteps → VerifierState → ℕ → Step → Code → VerifierState → Type 0
IsStepped given state at step rest state_then =
    InEachContext given.input (record given.position { at = at }) state (λ w x pending.
    (step_first w given.input.parts.now pending x at step rest ≡ None)
    × KeepsContext given.input.parts.now state_then (after_step w given.input.parts.now x step))

module _ (given : GivenSteps) (state : VerifierState) (at : ℕ) (left : List Step)
    (step : Step) (some : 1 ≤ length left) (is : step ≡ get_or left 0 step)
    (so_far : AreRemainingSteps given state at left) where
  abbrev rest : Code
  rest = code_of_steps (others left)

  pub one_walked : (state_then : VerifierState) (next : ℕ)
      → IsStepped given state at step rest state_then → next ≡ at + step_size step
      → IsSized given.input.parts.now state_then → AreFewAt state_then next
      → AreRemainingSteps given state_then next (others left)
  one_walked state_then next stepped number sized few =
      let code = code_first left step some is in
      record {
        past = omega (arith, number, so_far.past);
        size = omega (arith, number, so_far.size, ap code_size code, size_first step rest);
        turns = omega (
          arith,
          so_far.turns,
          ap (turns_met (size_of given.input.facts.now.sizes) given.position.met) code,
          turns_after (size_of given.input.facts.now.sizes) given.position.met step rest,
        );
        ready = record { met = so_far.ready.met; sized = sized; few = few };
        kept = λ w x pending facts keeps placed marked.
            let here = so_far.kept w x pending facts keeps placed marked in
            let there = here.0 in
            let done = stepped w there pending facts here.1
            (record { inside = here.2.inside; met = here.2.met }) marked in
            let next_there = after_step w given.input.parts.now there step in (
              next_there,
              done.1,
              still_placed w given.input.parts.now given.position there step here.2,
              record {
                first = here.3.first
                    ∙ ap (first_reason w given.input.parts.now pending there at) code
                    ∙ first_step w given.input.parts.now pending there at step rest
                    ∙ ap (λ o. option_or o (first_reason w given.input.parts.now pending next_there
                    (at + step_size step) rest)) done.0
                    ∙ ap (λ n. first_reason w given.input.parts.now pending next_there n rest)
                    (sym number);
                after = here.3.after ∙ ap (at_end w given.input.parts.now there) code
                    ∙ end_first w given.input.parts.now pending there at step rest;
              },
            );
      }

  -- what refuses the step is first
  pub step_refused : (refusal : Refusal)
      → InEachContext given.input (record given.position { at = at }) state (λ w x pending.
      IsFirst refusal (step_first w given.input.parts.now pending x at step rest))
      → InEachContext given.input given.position given.state (λ w x pending.
      IsFirst refusal (first_reason w given.input.parts.now pending x given.position.at
      (code_of_steps given.steps)))
  step_refused refusal stops w x pending facts keeps placed marked =
      let here = so_far.kept w x pending facts keeps placed marked in
      let there = here.0 in
      subst (IsFirst refusal)
      (sym (here.3.first ∙ ap (first_reason w given.input.parts.now pending there at)
      (code_first left step some is)
      ∙ first_step w given.input.parts.now pending there at step rest))
      (first_of refusal (step_first w given.input.parts.now pending there at step rest) _
      (stops w there pending facts here.1 (record { inside = here.2.inside; met = here.2.met })
      marked))

none_left : (left : List Step) → length left < 1 → code_of_steps left ≡ Stop
none_left [] h = refl
none_left (step ∷ rest) h = absurd (omega (arith, h))

pub all_checked : (given : GivenSteps) (state : VerifierState) (at : ℕ) (left : List Step)
    → length left < 1 → AreRemainingSteps given state at left
    → InEachContext given.input given.position given.state (λ w x pending.
    (first_reason w given.input.parts.now pending x given.position.at (code_of_steps given.steps)
    ≡ None)
    × AreRecorded given.input.parts.now state
    (at_end w given.input.parts.now x (code_of_steps given.steps)))
all_checked given state at left none so_far w x pending facts keeps placed marked =
    let here = so_far.kept w x pending facts keeps placed marked in
    let there = here.0 in
    let code = none_left left none in (
      here.3.first ∙ ap (first_reason w given.input.parts.now pending there at) code,
      subst (AreRecorded given.input.parts.now state)
          (sym (here.3.after ∙ ap (at_end w given.input.parts.now there) code))
          here.1.earlier,
    )

-- a scan whose register nothing refuses
pub scan_entered : (result : Result ℕ Refusal) (at : ℕ) (reason : Option Reason)
    (first : Option (ℕ × Reason)) (A : Type 0) → reason ≡ None → AreStepsChecked result first A
    → AreStepsChecked result (option_or (at_position at reason) first) A
scan_entered result at reason first A none h =
    subst (λ o. AreStepsChecked result (option_or (at_position at o) first) A) (sym none) h
