use Rattle.star_group.proofs.{Common.{[], None, ap, get_or, ◌∙◌, cut}, ListedRows.row_at}
use Rattle.star_group.proofs.keyed.ListedRows.cell.Goals as goal

pub returns : goal.returns
returns c =
    let s = c.args.self.now in
    c.held_in.ensures
    ∙ ap (λ row. get_or row c.args.index None) (c.row_of.ensures
    ∙ ap (λ ps. get_or (cut s.aggregate_count s.len ps) c.args.number []) c.as_slice.ensures.value
    ∙ row_at s c.args.number)
