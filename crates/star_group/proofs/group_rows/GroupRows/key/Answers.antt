use Rattle.star_group.proofs.{Common.{option_map, take, None, ap, get_or, ◌∙◌, listed_entries, row_at}, GivenRows.{key_shown, no_key}}
use Rattle.star_group.proofs.group_rows.GroupRows.key.Goals as goal

pub returns-then-index-self : goal.returns-then-index-self
returns-then-index-self c =
    let s = c.self.inside in
    let nothing = option_map (take s.rows.aggregate_count) s.nothing in
    c.part.ensures
    ∙ key_shown nothing s.key_count (listed_entries s.rows) c.args.number c.args.index
    c.if-index-self.true
    ∙ ap (λ rows. get_or (row_at rows c.args.number).keys c.args.index None) c.self.view_is

pub returns-else-index-self : goal.returns-else-index-self
returns-else-index-self c =
    let s = c.self.inside in
    let nothing = option_map (take s.rows.aggregate_count) s.nothing in
    no_key nothing s.key_count (listed_entries s.rows) c.args.number c.args.index
    c.if-index-self.false
    ∙ ap (λ rows. get_or (row_at rows c.args.number).keys c.args.index None) c.self.view_is
