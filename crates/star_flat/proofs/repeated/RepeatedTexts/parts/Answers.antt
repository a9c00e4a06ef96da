use Rattle.std.proofs.Common.{rules}
use Rattle.star_flat.proofs.repeated.RepeatedTexts.parts.Goals as goal

pub returns-clause-texts : goal.returns-clause-texts
returns-clause-texts c = search rules

pub returns-clause-repeated : goal.returns-clause-repeated
returns-clause-repeated c = search rules
