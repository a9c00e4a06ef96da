-- Both directions are lemmas.
use Rattle.star_program.proofs.OwnGroups.{overflow_somewhere, somewhere_overflows}
use Rattle.star_program.proofs.law.updates_overflow_in_their_groups.Goals as goal

pub returns : goal.returns
returns c = λ d others update.
    (overflow_somewhere d others update, somewhere_overflows d others update)
