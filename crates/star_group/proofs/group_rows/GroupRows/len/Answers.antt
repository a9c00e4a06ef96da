use Rattle.star_group.proofs.Common.{option_map, take, length, ap, sym, ◌∙◌, length-map, row_shown, listed_entries}
use Rattle.star_group.proofs.group_rows.GroupRows.len.Goals as goal

pub returns : goal.returns
returns c =
    let s = c.self.inside in
    let nothing = option_map (take s.rows.aggregate_count) s.nothing in
    c.len.ensures ∙ sym (length-map (listed_entries s.rows) (row_shown nothing s.key_count))
    ∙ ap length c.self.view_is
