use Rattle.star_query.proofs.Verdicts.{one_meaning}
use Rattle.star_query.proofs.law.one_tree.Goals as goal

pub returns : goal.returns
returns c = one_meaning
