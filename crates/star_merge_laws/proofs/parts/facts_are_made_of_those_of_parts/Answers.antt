use Rattle.star_merge_laws.proofs.Facts.{facts_joined}
use Rattle.star_merge_laws.proofs.parts.facts_are_made_of_those_of_parts.Goals as goal

pub returns : goal.returns
returns c = facts_joined
