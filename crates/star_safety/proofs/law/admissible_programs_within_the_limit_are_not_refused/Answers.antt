-- Both directions are lemmas.
use Rattle.star_safety.proofs.Refused.{not_refused, is_admissible}
use Rattle.star_safety.proofs.law.admissible_programs_within_the_limit_are_not_refused.Goals as goal

pub returns : goal.returns
returns c = λ w most parts. (is_admissible w most parts, not_refused w most parts)
