use Rattle.std.proofs.Common.{rules}
use Rattle.star_verify.proofs.facts.refers_to.Goals as goal

pub returns-in-Some : goal.returns-in-Some
returns-in-Some c = search rules
