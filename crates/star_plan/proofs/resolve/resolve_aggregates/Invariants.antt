use Rattle.std.proofs.Common.{◌≡◌, ◌++◌, ◌+◌, ◌≤◌, drop, length, map}
use Rattle.star_query.specs.Views.{item_view}
use Rattle.star_plan.{specs.Naming.{aggregate_names, names_from}, specs.Private.Stages.resolved_measures, specs.Views.{measures_view, names_view}, proofs.Options.with_rest}
use Rattle.star_plan.proofs.resolve.resolve_aggregates.Given as goal

abbrev pub invariant-loop-item : goal.invariant-loop-item
invariant-loop-item l = record {
  few : length l.aggregates.items ≤ l.item-index;
  measures : with_rest (measures_view l.aggregates.items)
      (resolved_measures (map item_view (drop l.item-index l.items)))
      ≡ resolved_measures (map item_view l.items);
  names : names_view l.aggregates.items
      ++ names_from (length l.aggregates.items + 1) (map item_view (drop l.item-index l.items))
      ≡ aggregate_names (map item_view l.items);
}
