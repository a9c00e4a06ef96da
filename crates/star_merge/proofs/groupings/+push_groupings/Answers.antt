use Rattle.std.{proofs.Common.{◌≡◌, ◌∙◌, ◌++◌, [], ◌∷◌, None, arith, map, true}, proofs.lemmas.Grind.common_steps, proofs.lemmas.Result.on_ok_weaker, specs.Option.is_some}
use Rattle.star_merge.{specs.Cells.key_of, proofs.Steps.pushed_groupings}
use Rattle.star_merge.proofs.groupings.+push_groupings.Goals as goal

pub returns-in_ok-push_groupings-in-len1-up : goal.returns-in_ok-push_groupings-in-len1-up
returns-in_ok-push_groupings-in-len1-up t c =
    let shows : is_some (key_of c.key-item.result) ≡ true = grind (arith, common_steps) in
    on_ok_weaker c.push_groupings-in-len1-up-2.result
    (λ more. pushed_groupings c.args.shape c.args.totals.now c.args.first.items
    c.in_ok-shown-in-len1-up.shown.items c.in_ok-hidden-in-len1-up.hidden.items c.args.keys.now
    c.key-item.result c.args.groups.now.items c.push_groupings-in-len1-up.new.groups.items
    c.push_groupings-in-len1-up-2.new.groups.items c.in-len1-up.len_at_least c.key-item.is shows
    (c.in_ok-shown-in-len1-up.ensures
    ∙ (λ i. map key_of (c.deref.ensures.value i) ++ key_of (c.as_view.ensures i) ∷ []))
    (c.in_ok-hidden-in-len1-up.ensures
    ∙ (λ i. map key_of (c.deref-in-len1-up.ensures.value i) ++ None ∷ []))
    c.in_ok-push_groupings-in-len1-up.ensures more)
    c.push_groupings-in-len1-up-2.ensures
