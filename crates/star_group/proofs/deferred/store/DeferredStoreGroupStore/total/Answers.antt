use Rattle.star_group.{proofs.Common.{None, ap, ◌∙◌, get_or, get_or_default, Count, numbers_for, shown, aggregate_at}, specs.Deferred.group_view, proofs.Totals.shown_held}
use Rattle.star_group.proofs.deferred.store.DeferredStoreGroupStore.total.Goals as goal

pub returns : goal.returns
returns c = λ us has.
    c.shown.ensures ∙ ap (shown _) c.get.ensures
    ∙ ap (λ g. shown g (get_or c.args.self.now.total c.args.aggregate None))
    (c.index.ensures ∙ get_or_default _ _ _ Count c.requires)
    ∙ ap (shown (aggregate_at (group_view c.args.self.now).aggregates c.args.aggregate))
    (has.total c.args.aggregate c.requires)
    ∙ shown_held (aggregate_at (group_view c.args.self.now).aggregates c.args.aggregate)
    (numbers_for c.args.aggregate us)
