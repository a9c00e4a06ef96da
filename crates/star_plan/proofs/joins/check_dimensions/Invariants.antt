use Rattle.star_query.specs.Views.{name_view}
use Rattle.star_plan.{specs.Faults.missing_fault, specs.Private.Found.pairs_view, proofs.Viewed.AnswerSoFar}
use Rattle.star_plan.proofs.joins.check_dimensions.Given as goal

abbrev pub invariant-loop-name : goal.invariant-loop-name
invariant-loop-name l = AnswerSoFar name_view (missing_fault (pairs_view l.pairs)) l.tables
    l.name-index
