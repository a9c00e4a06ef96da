use Rattle.std.proofs.{Common.{◌∙◌, ◌+◌, ap, arith, map, sym}, lemmas.Grind.common_steps}
use Rattle.star_query.specs.Views.{item_view, name_view}
use Rattle.star_plan.{specs.Faults.item_fault, specs.Views.names_view, proofs.Aggregates.{item_passed, items_next, names_taken, next_counted, next_named}, proofs.Exits.reports, proofs.Viewed.beside_found}
use Rattle.star_plan.proofs.select.show_items.Goals as goal

pub show_item-requires-clause-named : goal.show_item-requires-clause-named
show_item-requires-clause-named c =
    next_named item_view c.args.items.now c.loop-item.item-index _
    (names_view c.args.aggregates.now) _ (omega arith) c.item-item.is c.requires.named
    c.loop-item.invariant.counted

pub returns-in_err-show_item-clause-reported : goal.returns-in_err-show_item-clause-reported
returns-in_err-show_item-clause-reported c =
    let taken = names_taken item_view c.args.items.now c.loop-item.item-index _
    (names_view c.args.aggregates.now) _ (omega arith) c.item-item.is c.requires.named
    c.loop-item.invariant.counted in
    reports c.from_residual.result _
    (beside_found item_view (item_fault (map name_view c.args.groups.now)) c.args.items.now
    c.loop-item.item-index _ _ c.from_residual.result c.from_residual.ensures.1 (omega arith)
    c.loop-item.invariant.right c.item-item.is
    (rw taken at c.in_err-show_item.ensures.reported))

pub loop-item-preserved : goal.loop-item-preserved
loop-item-preserved c = record {
  few = omega (arith, c.loop-item.invariant.few, c.aggregates_in.ensures.few);
  counted = ap (λ n. c.loop-item.before + n) c.aggregates_in.ensures.count
      ∙ next_counted item_view c.args.items.now c.loop-item.item-index _
      (names_view c.args.aggregates.now) _ (omega arith) c.item-item.is c.requires.named
      c.loop-item.invariant.counted;
  right = item_passed item_view c.args.items.now c.loop-item.item-index _
      (names_view c.args.aggregates.now) _ (omega arith) c.item-item.is c.requires.named
      c.loop-item.invariant.counted
      (map name_view c.args.groups.now) c.loop-item.invariant.right
      (sym c.in_ok-show_item.ensures.reported);
  shown = grind (arith, common_steps, items_next);
}
