use Rattle.std.{proofs.Common.{FitsSigned, ap, rules, subst, sym, to_z-of_z, w64, ◌∙◌}, specs.Prelude.unwrap_or}
use Rattle.star_program.specs.{declared.value.Value.TheVariants.Number, Faults.group_at, Private.Doing.assigns, Private.Doing.fitting, Puts.total_over}
use Rattle.star_trial.{specs.Private.Acts.IsValueMade, specs.Private.Views.registers_view, proofs.Performed.{answer_made, read_made}}
use Rattle.star_world.specs.WorldOf.{world_of}
use Rattle.star_trial.proofs.act.operate.Goals as goal

pub returns-in-Find-clause-does : goal.returns-in-Find-clause-does
returns-in-Find-clause-does c = λ s target done.
    let m = c.args.machine.now in
    subst (λ o. IsValueMade m.catalogue.now m.parts.now (registers_view c.args.registers.now)
    c.look_up.new.run target
    (assigns (world_of m.catalogue.now) m.parts.now (registers_view c.args.registers.now) s
    target o) c.look_up.result) (sym c.in-Find.is) (c.look_up.ensures.does s target done)

pub returns-in-Binary-clause-does : goal.returns-in-Binary-clause-does
returns-in-Binary-clause-does c = λ s target done.
    let m = c.args.machine.now in
    subst (λ o. IsValueMade m.catalogue.now m.parts.now (registers_view c.args.registers.now)
    c.args.run.now target (assigns (world_of m.catalogue.now) m.parts.now
    (registers_view c.args.registers.now) s target o) c.answered.result)
    (sym c.in-Binary.is) (answer_made m.catalogue.now m.parts.now
    (registers_view c.args.registers.now) c.args.run.now s done target c.in-Binary.operator _ _
    c.answer.result c.answered.result c.answer.ensures c.answered.ensures)

pub returns-in-Not-clause-does : goal.returns-in-Not-clause-does
returns-in-Not-clause-does c = search rules

pub returns-in-Read-clause-does : goal.returns-in-Read-clause-does
returns-in-Read-clause-does c = λ s target done.
    let m = c.args.machine.now in
    let registers = registers_view c.args.registers.now in
    let number : FitsSigned w64 c.in-Read.default = search rules in
    let so_far = total_over (group_at m.parts.now c.in-Read.group).aggregates c.in-Read.aggregate
    (s.updates_of c.in-Read.group) in
    subst (λ o. IsValueMade m.catalogue.now m.parts.now registers c.args.run.now target
    (assigns (world_of m.catalogue.now) m.parts.now registers s target o)
    c.answered-in-Read.result) (sym c.in-Read.is)
    (read_made m.catalogue.now m.parts.now registers c.args.run.now s done target
    (unwrap_or so_far c.in-Read.default) c.read.result c.answered-in-Read.result
    (c.read.ensures m.parts.now s.updates_of done.stores
    ∙ ap (λ n. fitting (Number (unwrap_or so_far n))) (to_z-of_z number))
    c.answered-in-Read.ensures)
