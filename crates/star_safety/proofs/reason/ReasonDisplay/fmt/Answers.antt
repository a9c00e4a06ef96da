use Rattle.std.proofs.Common.{rules}
use Rattle.star_safety.specs.ReasonTexts.{reason_text}
use Rattle.star_safety.proofs.reason.ReasonDisplay.fmt.Goals as goal

pub returns-in-OpenGroup-clause-writes : goal.returns-in-OpenGroup-clause-writes
unfolding reason_text
returns-in-OpenGroup-clause-writes c = search rules
