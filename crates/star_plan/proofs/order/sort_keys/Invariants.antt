use Rattle.std.proofs.Common.{◌≡◌, drop, map}
use Rattle.star_query.specs.Views.{name_view, sort_key_view}
use Rattle.star_plan.{specs.Faults.key_fault, specs.Resolved.option_all, specs.Naming.resolved_key, specs.Views.names_view, proofs.Options.with_rest, proofs.Viewed.AnswerSoFar}
use Rattle.star_plan.proofs.order.sort_keys.Given as goal

abbrev pub invariant-loop-key : goal.invariant-loop-key
invariant-loop-key l = record {
  reported : AnswerSoFar sort_key_view
      (key_fault (map name_view l.groups) (names_view l.aggregates)) l.keys l.key-index;
  sorted :
      with_rest l.sorts.items (option_all
      (resolved_key (map name_view l.groups) (names_view l.aggregates))
      (map sort_key_view (drop l.key-index l.keys)))
      ≡ option_all (resolved_key (map name_view l.groups) (names_view l.aggregates))
      (map sort_key_view l.keys);
}
