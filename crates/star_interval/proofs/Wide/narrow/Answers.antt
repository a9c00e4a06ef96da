use Rattle.std.proofs.Common.{rules}
use Rattle.star_interval.proofs.Wide.narrow.Goals as goal

pub returns-in_default-clause-fits : goal.returns-in_default-clause-fits
returns-in_default-clause-fits c = search rules
