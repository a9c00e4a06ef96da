-- Sound rows are a loaded world, over which the program is accepted.
use Rattle.star_schema.specs.Database.{Database}
use Rattle.star_program.specs.{declared.program.Parts.Parts, World.IsLoaded}
use Rattle.star_world.specs.WorldOf.{world_of}
use Rattle.star_safety.specs.Laws.{IsAccepted}
use Rattle.star_machine.specs.Accepted.{IsAcceptedOver}
use Rattle.star_machine.proofs.law.admissible_programs_run_over_sound_rows.Goals as goal

accepted : (database : Database) (parts : Parts) → IsLoaded (world_of database)
    → IsAcceptedOver database parts → IsAccepted (world_of database) parts
accepted database parts loaded h =
    record { loaded = loaded; limits = h.limits; admissible = h.admissible; cheap = h.cheap }

pub returns-clause-ends : goal.returns-clause-ends
returns-clause-ends c = λ database parts h.
    c.admissible_programs_never_trap.ensures.ends (world_of database) parts
    (accepted database parts (c.sound_rows_are_loaded.ensures database h.sound) h)

pub returns-clause-moments : goal.returns-clause-moments
returns-clause-moments c = λ database parts h.
    c.admissible_programs_never_trap.ensures.moments (world_of database) parts
    (accepted database parts (c.sound_rows_are_loaded.ensures database h.sound) h)

pub returns-clause-totals : goal.returns-clause-totals
returns-clause-totals c = λ database parts h.
    c.admissible_programs_never_trap.ensures.totals (world_of database) parts
    (accepted database parts (c.sound_rows_are_loaded.ensures database h.sound) h)
