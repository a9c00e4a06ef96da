use Rattle.std.proofs.Common.{rules}
use Rattle.star_verify.specs.RefusalTexts.{refusal_text}
use Rattle.star_verify.proofs.refusal.RefusalDisplay.fmt.Goals as goal

pub returns-in-BadShow-clause-writes : goal.returns-in-BadShow-clause-writes
unfolding refusal_text
returns-in-BadShow-clause-writes c = search rules
