use Rattle.std.proofs.Common.{map}
use Rattle.star_query.specs.Views.{name_view}
use Rattle.star_plan.{specs.Faults.scope_fault, specs.Private.Found.use_view, proofs.Viewed.AnswerSoFar}
use Rattle.star_plan.proofs.uses.check_scope.Given as goal

abbrev pub invariant-loop-named : goal.invariant-loop-named
invariant-loop-named l =
    AnswerSoFar use_view (scope_fault (map name_view l.tables)) l.uses l.named-index
