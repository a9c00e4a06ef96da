use Rattle.std.proofs.Common.{rules, arith}
use Rattle.star_plan.specs.Views.{plan_view}
use Rattle.star_compile_laws.proofs.Programs.{is_within_limits}
use Rattle.star_compile.proofs.Plain.{shows_same}
use Rattle.star_compile.proofs.compiler.parts.Goals as goal

pub turn-requires-clause-room : goal.turn-requires-clause-room
turn-requires-clause-room c =
    let limits = is_within_limits (plan_view c.args.tree.now) c.requires.limits in
    omega (arith, limits.registers)

pub returns : goal.returns
returns c =
    let same = shows_same (plan_view c.args.tree.now) c.args.shape c.args.items.now c.args.sorts.now
    c.args.items.now in
    search (rules, same)
