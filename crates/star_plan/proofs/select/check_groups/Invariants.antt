use Rattle.star_query.specs.Views.{name_view}
use Rattle.star_plan.{specs.Faults.group_fault, proofs.Viewed.BesideSoFar}
use Rattle.star_plan.proofs.select.check_groups.Given as goal

abbrev pub invariant-loop-index : goal.invariant-loop-index
invariant-loop-index l = BesideSoFar name_view group_fault l.groups l.index
