use Rattle.std.proofs.Common.{rules}
use Rattle.star_outcome.proofs.outcome.order.compare_led.Goals as goal

pub returns-in-Equal : goal.returns-in-Equal
returns-in-Equal c = search rules
