use Rattle.std.proofs.Common.{rules}
use Rattle.star_safety.specs.ReasonTexts.{reason_text}
use Rattle.star_safety.proofs.reason.ReachedDisplay.fmt.Goals as goal

pub returns-clause-writes : goal.returns-clause-writes
unfolding reason_text
returns-clause-writes c = search rules
