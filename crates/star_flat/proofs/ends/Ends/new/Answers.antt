use Rattle.std.proofs.Common.{◌∙◌, arith}
use Rattle.star_flat.proofs.EndsLemmas.{no_ends}
use Rattle.star_flat.proofs.ends.Ends.new.Goals as goal

pub invariant_of-result : goal.invariant_of-result
invariant_of-result c = grind (arith, no_ends)

pub returns : goal.returns
returns c = grind (arith, no_ends)
