-- The conjuncts so far and those to come are the conjuncts.
use Rattle.std.{proofs.Common.{◌≡◌, drop, map, true}, specs.List.list_all}
use Rattle.star_plan.specs.{Views.row_condition_view, Spelled.condition_is_spelled}
use Rattle.star_compile_laws.specs.Compiled.{conjuncts_code}
use Rattle.star_compile.proofs.Emits.{Follows}
use Rattle.star_compile.proofs.emitter.Emitter.conjuncts.Given as goal

abbrev pub invariant-loop-condition : goal.invariant-loop-condition
invariant-loop-condition l = record {
  rest : Follows l.fn.self l.self (conjuncts_code l.joins (map row_condition_view l.conditions))
      (conjuncts_code l.joins (map row_condition_view (drop l.condition-index l.conditions)));
  spelled : list_all condition_is_spelled
      (map row_condition_view (drop l.condition-index l.conditions)) ≡ true;
}
