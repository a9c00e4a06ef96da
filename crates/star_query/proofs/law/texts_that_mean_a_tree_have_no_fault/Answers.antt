use Rattle.star_query.proofs.FirstFaults.{no_fault}
use Rattle.star_query.proofs.law.texts_that_mean_a_tree_have_no_fault.Goals as goal

pub returns : goal.returns
returns c = no_fault
