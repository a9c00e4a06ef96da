-- From the laws of compiled programs, for the plans of texts.
use Rattle.std.proofs.Common.{true}
use Rattle.star_world.specs.WorldOf.{world_of}
use Rattle.star_engine.proofs.PlansOfQueries.{plan_sound, plan_spelled, plan_within}
use Rattle.star_engine.proofs.query_laws.programs_of_queries_report_them.Goals as goal

pub returns-clause-quoted : goal.returns-clause-quoted
returns-clause-quoted c =
    λ database p. c.compiled_programs_visit_each_row_once.ensures (world_of database).size p

pub returns-clause-spelled : goal.returns-clause-spelled
returns-clause-spelled c = λ query p meant.
    c.compiled_plans_are_programs.ensures.spellable p (plan_within query p meant)
    (plan_sound query p meant) (plan_spelled query p meant)

pub returns-clause-printed : goal.returns-clause-printed
returns-clause-printed c = λ database query p s loaded meant ended outcome told.
    c.compiled_programs_report_their_queries.ensures database query meant.tree p loaded.sound
    loaded.rows meant.means meant.named meant.resolved (λ visits. true) s outcome ended told

pub returns-clause-counted : goal.returns-clause-counted
returns-clause-counted c = λ database query p s loaded meant ended.
    c.compiled_programs_count_the_rows.ensures database (world_of database) meant.tree p loaded.rows
    (c.sound_rows_have_a_world.ensures database loaded.sound) meant.named meant.resolved
    (λ visits. true) s ended
