-- Both directions are lemmas.
use Rattle.star_plan.proofs.Conditions.{no_fault, well_named}
use Rattle.star_plan.proofs.law.well_named_queries_have_no_fault.Goals as goal

pub returns : goal.returns
returns c = λ t. (no_fault t, well_named t)
