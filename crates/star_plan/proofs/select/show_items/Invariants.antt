use Rattle.std.proofs.Common.{◌≡◌, ◌≤◌, drop, length, map, take}
use Rattle.star_query.specs.Views.{item_view, name_view}
use Rattle.star_plan.{specs.Faults.item_fault, specs.Naming.aggregate_names, specs.Resolved.items_from, proofs.Options.with_rest, proofs.Viewed.BesideSoFar}
use Rattle.star_plan.proofs.select.show_items.Given as goal

abbrev pub invariant-loop-item : goal.invariant-loop-item
invariant-loop-item l = record {
  few : l.before ≤ l.item-index;
  counted : l.before ≡ length (aggregate_names (map item_view (take l.item-index l.items)));
  right : BesideSoFar item_view (item_fault (map name_view l.groups)) l.items l.item-index;
  shown : with_rest l.columns.items
      (items_from (map name_view l.groups) l.before (map item_view (drop l.item-index l.items)))
      ≡ items_from (map name_view l.groups) 0 (map item_view l.items);
}
