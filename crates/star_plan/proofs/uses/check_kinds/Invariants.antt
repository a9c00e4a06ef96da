use Rattle.star_plan.{specs.Faults.use_kind_fault, specs.Private.Found.use_view, proofs.Viewed.AnswerSoFar}
use Rattle.star_plan.proofs.uses.check_kinds.Given as goal

abbrev pub invariant-loop-named : goal.invariant-loop-named
invariant-loop-named l = AnswerSoFar use_view use_kind_fault l.uses l.named-index
