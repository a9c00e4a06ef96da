use Rattle.star_plan.proofs.PlannedQueries.{planned_sound, planned_spelled, planned_within}
use Rattle.star_plan.proofs.law.planned_queries_are_sound.Goals as goal

pub returns-clause-sound : goal.returns-clause-sound
returns-clause-sound c = planned_sound

pub returns-clause-limits : goal.returns-clause-limits
returns-clause-limits c = planned_within

pub returns-clause-spelled : goal.returns-clause-spelled
returns-clause-spelled c = planned_spelled
