use Rattle.star_group.proofs.{Common.ap, Common.listed_entries, Common.sym, Common.take, Common.◌∙◌, GivenRows.nothing_row}
use Rattle.star_group.proofs.group_rows.nothing_given.Goals as goal

pub returns : goal.returns
returns c = nothing_row c.args.key_count c.args.aggregates.now _ _ (listed_entries c.args.rows) _
    c.requires.none c.in_ok-push.ensures.rows
    (ap (λ n. take n c.over_nothing.result)
    (c.push.ensures.aggregate_count ∙ sym c.requires.aggregate_count)
    ∙ c.over_nothing.ensures)
