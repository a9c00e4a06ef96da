-- The clause is a lemma.
use Rattle.star_safety.proofs.Forward.{first_standing}
use Rattle.star_safety.proofs.law.one_pass_finds_the_first.Goals as goal

pub returns : goal.returns
returns c = first_standing
