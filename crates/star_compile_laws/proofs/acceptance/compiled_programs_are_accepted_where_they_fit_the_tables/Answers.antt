-- The law over the world of the tables.
use Rattle.star_world.specs.WorldOf.{world_of}
use Rattle.star_compile_laws.proofs.Verdicts.{accepted_fits, costly, first, fitting_accepted, overflows}
use Rattle.star_compile_laws.proofs.acceptance.compiled_programs_are_accepted_where_they_fit_the_tables.Goals as goal

pub returns-clause-fits : goal.returns-clause-fits
returns-clause-fits c = λ database most p bounds sound spelled. (
  fitting_accepted (world_of database) most p sound bounds spelled,
  accepted_fits (world_of database) most p sound,
)

pub returns-clause-costly : goal.returns-clause-costly
returns-clause-costly c = λ database. costly (world_of database)

pub returns-clause-wide : goal.returns-clause-wide
returns-clause-wide c = λ database. overflows (world_of database)

pub returns-clause-first : goal.returns-clause-first
returns-clause-first c = λ database. first (world_of database)
