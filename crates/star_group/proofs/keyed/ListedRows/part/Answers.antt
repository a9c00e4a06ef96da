use Rattle.star_group.proofs.{Common.{[], None, ap, get_or, ◌∙◌, key_view, cut}, ListedRows.part_at}
use Rattle.star_group.proofs.keyed.ListedRows.part.Goals as goal

pub returns : goal.returns
returns c =
    let s = c.args.self.now in
    c.part_in.ensures
    ∙ ap (λ ps. get_or (key_view ps) c.args.index None) (c.row_of.ensures
    ∙ ap (λ ps. get_or (cut s.width s.len ps) c.args.number []) c.as_slice.ensures.value)
    ∙ part_at s c.args.number c.args.index
