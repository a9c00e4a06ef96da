use Rattle.star_group.proofs.Common.{◌≡◌, ap, ◌∙◌, map, rules, subst, sym, take, list_all, is_some, take-map, list_all-map, Rollup, is_grouping, key_view, key_value_view}
use Rattle.star_group.proofs.keyed.key.is_grouping.Goals as goal

pub returns-in-Plain : goal.returns-in-Plain
returns-in-Plain c =
    let shown : c.are_shown.result
    ≡ list_all (λ part. is_some (key_value_view part))
    (take c.args.key_count c.args.parts.now) = search rules in
    subst (λ shape. c.are_shown.result
    ≡ is_grouping shape (take c.args.key_count (key_view c.args.parts.now))) (sym c.in-Plain.is)
    (shown ∙ sym (list_all-map is_some key_value_view (take c.args.key_count c.args.parts.now))
    ∙ ap (list_all is_some) (sym (take-map key_value_view c.args.key_count c.args.parts.now)))

pub returns-in-Rollup : goal.returns-in-Rollup
returns-in-Rollup c =
    let shown : c.are_shown_first.result
    ≡ is_grouping Rollup (map key_value_view (take c.args.key_count c.args.parts.now)) =
    search rules in
    subst (λ shape. c.are_shown_first.result
    ≡ is_grouping shape (take c.args.key_count (key_view c.args.parts.now))) (sym c.in-Rollup.is)
    (shown ∙ ap (is_grouping Rollup)
    (sym (take-map key_value_view c.args.key_count c.args.parts.now)))
