use Rattle.std.{proofs.Common.{◌≡◌, ◌≤◌, ◌+◌, ◌-◌, ◌*◌, length, drop}, specs.Prelude.nat_lt}
use Rattle.star_schema.specs.Database.{rows_in}
use Rattle.star_program.specs.{Code.code_size, Code.scan_depth, CodeOfSteps.code_of_steps, Effects.State, Run.turns, declared.value.Value.TheVariants.Row}
use Rattle.star_trial.specs.{Private.Runs.HasDone, Private.Views.registers_view, Private.Walks.HasWorked, Private.Walks.means, Private.Walks.means_at, Private.Walks.means_turns}
use Rattle.star_outcome.specs.Sound.{AreSound}
use Rattle.star_trial.proofs.walk.+walk.Given as goal

abbrev pub decreases-walk : goal.decreases-walk
decreases-walk l = 4 * code_size l.body.now

abbrev pub decreases-turn : goal.decreases-turn
decreases-turn l = 4 * code_size l.scanned.now.body.now + 1

abbrev pub decreases-turns : goal.decreases-turns
decreases-turns l = 4 * code_size l.scanned.now.body.now + 2

abbrev pub decreases-scan : goal.decreases-scan
decreases-scan l = 4 * code_size l.scanned.now.body.now + 3

abbrev pub invariant-turns-loop-row : goal.invariant-turns-loop-row
invariant-turns-loop-row l = record {
  ends : (s : State) → HasDone l.machine.catalogue.now l.machine.parts.now l.initial.run s
      → (now : State) × HasDone l.machine.catalogue.now l.machine.parts.now l.run now
      × (turns (λ visits. nat_lt visits l.machine.most)
      (length (rows_in l.machine.catalogue.now l.scanned.table) - l.row) l.row
      (λ row. means_at l.machine l.scanned (registers_view l.scanned.before.now)
      (Row l.scanned.table row)) now
      ≡ means_turns l.machine l.scanned (registers_view l.scanned.before.now) s);
  worked : HasWorked l.machine.most l.initial.run l.run 0;
}

abbrev pub invariant-walk-loop-step : goal.invariant-walk-loop-step
invariant-walk-loop-step l = record {
  ends : (s : State) → HasDone l.machine.catalogue.now l.machine.parts.now l.initial.run s
      → (now : State) × HasDone l.machine.catalogue.now l.machine.parts.now l.run now
      × (means l.machine (code_of_steps (drop l.step-index l.step-items)) l.index l.inside
      (registers_view l.registers) now
      ≡ means l.machine l.body l.at l.inside (registers_view l.initial.registers) s);
  sound : AreSound l.machine.catalogue.now (registers_view l.registers);
  worked : HasWorked l.machine.most l.initial.run l.run (l.index - l.at);
  placed : l.index + code_size (code_of_steps (drop l.step-index l.step-items))
      ≡ l.at + code_size l.body;
  after : l.at ≤ l.index;
  deep : scan_depth (code_of_steps (drop l.step-index l.step-items)) * l.machine.parts.now.registers
      ≤ length l.frames;
}
