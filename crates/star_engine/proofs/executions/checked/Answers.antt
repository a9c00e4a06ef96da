use Rattle.star_world.specs.WorldOf.{world_of}
use Rattle.star_engine.proofs.Executing.{refused}
use Rattle.star_engine.proofs.executions.checked.Goals as goal

pub returns-in-Err : goal.returns-in-Err
returns-in-Err c =
    rw c.fault_of.ensures
    (refused c.args.catalogue.now c.args.limits.visits c.args.program c.in-Err.refused.refusal
    (c.admissible_programs_within_the_limit_are_not_refused.ensures (world_of c.args.catalogue.now)
    c.args.limits.visits c.args.program)
    c.in-Err.ensures.refused)
