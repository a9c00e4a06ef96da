-- A scan and all in it are met as often as its turns begin.
use Rattle.star_safety.proofs.TurnsMet.{all_met}
use Rattle.star_safety.proofs.law.instructions_are_met_within_the_quote.Goals as goal

pub returns : goal.returns
returns c = all_met
