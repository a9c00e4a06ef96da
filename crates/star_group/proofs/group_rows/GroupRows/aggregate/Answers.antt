use Rattle.star_group.proofs.{Common.{None, ap, arith, get_or, map, option_map, sym, take, ◌∙◌, row_shown, listed_entries, row_at}, GivenRows.{aggregates_shown, nothing_shown}}
use Rattle.star_group.proofs.group_rows.GroupRows.aggregate.Goals as goal

pub returns-in-None : goal.returns-in-None
returns-in-None c =
    let s = c.self.inside in
    let es = listed_entries s.rows in
    c.cell.ensures
    ∙ ap (λ row. get_or row c.args.index None) (aggregates_shown s.key_count es c.args.number
    ∙ ap (λ n. (row_at (map (row_shown (option_map (take s.rows.aggregate_count) n) s.key_count) es)
    c.args.number).totals) (sym c.in-None.is))
    ∙ ap (λ rows. get_or (row_at rows c.args.number).totals c.args.index None) c.self.view_is

pub returns-then-number-len : goal.returns-then-number-len
returns-then-number-len c =
    let s = c.self.inside in
    let es = listed_entries s.rows in
    c.aggregate_at.ensures
    ∙ ap (λ row. get_or row c.args.index None)
    (nothing_shown _ s.key_count es c.args.number
    (omega (arith, c.if-number-len.true, c.len.ensures))
    ∙ ap (λ n. (row_at (map (row_shown (option_map (take s.rows.aggregate_count) n) s.key_count) es)
    c.args.number).totals) (sym c.in-Some.is))
    ∙ ap (λ rows. get_or (row_at rows c.args.number).totals c.args.index None) c.self.view_is
