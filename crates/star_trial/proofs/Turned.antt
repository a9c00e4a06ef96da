-- One step of a walk, and one turn of a scan.
use Rattle.std.{proofs.Common.{◌≡◌, ◌<◌, ◌≤◌, ◌+◌, ◌-◌, ◌*◌, ℕ, Bool, true, false, List, length, drop, get_or, arith, ap, sym, subst, ◌∙◌, refl}, proofs.lemmas.Bool.lt-ltb, proofs.Math.Nat.mul-le-mul_right, specs.Prelude.nat_lt}
use Rattle.star_schema.specs.{declared.table.TableId.TableId, Database.Database}
use Rattle.star_program.{specs.Run.{End, after, begin, follow, meaning, scans, turns, visited}, specs.declared.body.Step.Step, specs.declared.body.Step.TheVariants.{Act, Scan}, specs.declared.op.Op.Op, specs.declared.program.Parts.Parts, specs.Code.{Code, Each, code_size, scan_depth}, specs.CodeOfSteps.code_of_steps, specs.Effects.{State, Effect, act}, specs.Values.{Registers, with_entry}, specs.declared.value.Value.TheVariants.Row, specs.World.World, proofs.Steps.{next_act, next_scan}}
use Rattle.star_safety.proofs.Nested.{deeper_left, deeper_right}
use Rattle.star_outcome.{proofs.Turns.{turn_limited, turn_trapped}, specs.declared.flow.Flow.Flow}
use Rattle.star_trial.specs.{declared.fault.Stop.Stop, declared.fault.TrialFault.TrialFault, declared.machine.Machine.Machine, Private.Acts.{Ends, Goes, IsActStopped, IsFlow}, Private.Runs.{AreStores, HasDone, Run}, Trials.IsFaultOfEnd, Private.Walks.{HasWorked, fault_at, means}}
use Rattle.star_world.specs.WorldOf.{world_of}
use Rattle.star_outcome.specs.declared.flow.Flow.TheVariants as flow
use Rattle.star_trial.specs.declared.fault.Stop.TheVariants as stop
use Rattle.star_trial.specs.declared.fault.TrialFault.TheVariants as fault

-- ---- the steps of a body

-- a scan and what follows it
pub scan_then : (w : World) (parts : Parts) (may : ℕ → Bool) (table : TableId) (r : ℕ)
    (body rest : Code) (at : ℕ) (inside : Bool) (regs : Registers) (s : State)
    → meaning w parts may (Each table r body rest) at inside regs s
    ≡ after (scans at (nat_lt r parts.registers)
    (λ _. turns may (w.size table) 0
    (λ row. meaning w parts may body (at + 1) true (with_entry regs r (Row table row))) s))
    (meaning w parts may rest (at + 1 + code_size body) inside regs)
scan_then w parts may table r body rest at inside regs s = go (nat_lt r parts.registers)
  where
    all : End
    all = turns may (w.size table) 0
        (λ row. meaning w parts may body (at + 1) true (with_entry regs r (Row table row))) s

    go : (b : Bool) → scans at b
        (λ _. after all (meaning w parts may rest (at + 1 + code_size body) inside regs))
        ≡ after (scans at b (λ _. all))
        (meaning w parts may rest (at + 1 + code_size body) inside regs)
    go true = refl
    go false = refl

-- ---- how deep

-- where there are frames enough for a scan and what follows it, there are for its body and for what
-- follows it
pub body_deep : (table : TableId) (r n frames : ℕ) (body rest : Code)
    → scan_depth (Each table r body rest) * n ≤ frames → (1 + scan_depth body) * n ≤ frames
body_deep table r n frames body rest h =
    let deep = mul-le-mul_right n
    (deeper_left (nat_lt (1 + scan_depth body) (scan_depth rest)) (1 + scan_depth body)
    (scan_depth rest) (scan_depth (Each table r body rest)) refl (omega arith)) in
    omega (arith, deep, h)

pub rest_deep : (table : TableId) (r n frames : ℕ) (body rest : Code)
    → scan_depth (Each table r body rest) * n ≤ frames → scan_depth rest * n ≤ frames
rest_deep table r n frames body rest h =
    let deep = mul-le-mul_right n
    (deeper_right (nat_lt (1 + scan_depth body) (scan_depth rest)) (1 + scan_depth body)
    (scan_depth rest) (scan_depth (Each table r body rest)) refl (omega arith)) in
    omega (arith, deep, h)

-- ---- what is left of a walk

module _ (m : Machine) (steps : List Step) {i : ℕ} {step : Step} (index : ℕ) (inside : Bool)
    (registers : Registers) (now : State) where
  pub act_follows : {op : Op} {effect : Effect} → i < length steps → step ≡ get_or steps i step
      → step ≡ Act op → act (world_of m.catalogue.now) m.parts.now inside registers now op ≡ effect
      → means m (code_of_steps (drop i steps)) index inside registers now
      ≡ follow index effect (means m (code_of_steps (drop (i + 1) steps)) (index + 1) inside)
  act_follows {op = op} lt at is does =
      ap (λ k. means m k index inside registers now) (next_act steps i step op lt at is)
      ∙ ap (λ e. follow index e (means m (code_of_steps (drop (i + 1) steps)) (index + 1) inside))
      does

  pub scan_follows : {table : TableId} {r : ℕ} {body : Code} {end : End} → i < length steps
      → step ≡ get_or steps i step → step ≡ Scan table r body
      → scans index (nat_lt r m.parts.now.registers)
      (λ _. turns (λ visits. nat_lt visits m.most) ((world_of m.catalogue.now).size table) 0
      (λ row. means m body (index + 1) true (with_entry registers r (Row table row))) now) ≡ end
      → means m (code_of_steps (drop i steps)) index inside registers now
      ≡ after end (means m (code_of_steps (drop (i + 1) steps)) (index + 1 + code_size body)
      inside registers)
  scan_follows {table = table} {r = r} {body = body} lt at is ended =
      ap (λ k. means m k index inside registers now) (next_scan steps i step table r body lt at is)
      ∙ scan_then (world_of m.catalogue.now) m.parts.now (λ visits. nat_lt visits m.most) table r
      body (code_of_steps (drop (i + 1) steps)) index inside registers now
      ∙ ap (λ e. after e (means m (code_of_steps (drop (i + 1) steps)) (index + 1 + code_size body)
      inside registers)) ended

-- ---- the beginning of a turn

pub begin_turn : (most : ℕ) (s : State) (turn : State → End) → s.visits < most
    → begin (nat_lt s.visits most) s turn ≡ turn (visited s)
begin_turn most s turn h = ap (λ b. begin b s turn) (lt-ltb s.visits most h)

pub done_visited : (database : Database) (parts : Parts) (run new : Run) (s : State)
    → new.stores ≡ run.stores → new.visits ≡ run.visits + 1 → new.lookups ≡ run.lookups
    → new.updates ≡ run.updates
    → HasDone database parts run s → HasDone database parts new (visited s)
done_visited database parts run new s stores visits lookups updates done = record {
  stores = subst (λ v. AreStores parts v.items s.updates_of) (sym stores) done.stores;
  sound = done.sound;
  visits = visits ∙ ap (λ n. n + 1) done.visits;
  lookups = lookups ∙ done.lookups;
  updates = updates ∙ done.updates;
}

-- ---- how turns and walks end

pub turns_fault : (may : ℕ → Bool) (n j : ℕ) (turn : ℕ → State → End) (s : State) (whole : End)
    (fault : TrialFault) → j < n → IsFaultOfEnd (begin (may s.visits) s (turn j)) fault
    → turns may (n - j) j turn s ≡ whole → IsFaultOfEnd whole fault
turns_fault may n j turn s whole fault.OutOfMemory lt ends same = tt
turns_fault may n j turn s whole (fault.Trap at kind) lt ends same =
    sym same ∙ turn_trapped may n j turn s at kind lt ends
turns_fault may n j turn s whole fault.Limit lt ends same =
    sym same ∙ turn_limited may n j turn s lt ends

pub after_fault : (end whole : End) (next : State → End) (fault : TrialFault)
    → IsFaultOfEnd end fault → whole ≡ after end next → IsFaultOfEnd whole fault
after_fault end whole next fault.OutOfMemory ends is = tt
after_fault end whole next (fault.Trap at kind) ends is = is ∙ ap (λ e. after e next) ends
after_fault end whole next fault.Limit ends is = is ∙ ap (λ e. after e next) ends

pub stop_fault : (whole : End) (at : ℕ) (effect : Effect) (next : Registers → State → End)
    (stop : Stop) → IsActStopped effect stop → whole ≡ follow at effect next
    → IsFaultOfEnd whole (fault_at at stop)
stop_fault whole at effect next stop.OutOfMemory stops is = tt
stop_fault whole at effect next (stop.Trap kind) stops is = is ∙ ap (λ e. follow at e next) stops

pub turn_ended : {database : Database} {parts : Parts} {run : Run} {effect : Effect} {f : Flow}
    (registers : Registers) → f ≡ flow.EndsTurn → IsFlow database parts registers run effect f
    → Ends database parts run effect
turn_ended {database = database} {parts = parts} {run = run} {effect = effect} registers is done =
    subst (IsFlow database parts registers run effect) is done

pub gone_on : {database : Database} {parts : Parts} {run : Run} {effect : Effect} {f : Flow}
    (registers : Registers) → f ≡ flow.GoesOn → IsFlow database parts registers run effect f
    → Goes database parts registers run effect
gone_on {database = database} {parts = parts} {run = run} {effect = effect} registers is done =
    subst (IsFlow database parts registers run effect) is done

pub worked_more : {most : ℕ} {a b d : Run} {m n k : ℕ} → HasWorked most a b m → HasWorked most b d n
    → m + n ≤ k → HasWorked most a d k
worked_more first second is =
    record {
      visits = second.visits;
      more = omega (arith, first.more, second.more);
      work = omega (arith, first.work, second.work, is);
    }

pub worked_act : {most : ℕ} {a b d : Run} {m k : ℕ} → HasWorked most a b m → d.visits ≡ b.visits
    → d.lookups + d.updates ≤ b.lookups + b.updates + 1 → m + 1 ≤ k → HasWorked most a d k
worked_act first same more is =
    record {
      visits = omega (arith, first.visits, same);
      more = omega (arith, first.more, same);
      work = omega (arith, first.work, more, same, is);
    }
