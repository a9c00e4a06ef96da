use Rattle.std.proofs.Common.{[], get_or, ap, ◌∙◌}
use Rattle.star_program.specs.Rows.{cut}
use Rattle.star_program.proofs.cell_rows.CellRows.row.Goals as goal

pub returns : goal.returns
returns c =
    let s = c.self.inside in
    let n = c.args.number in
    c.row_of.ensures
    ∙ ap (λ cells. get_or (cut s.width s.len cells) n []) c.deref.ensures.value
    ∙ ap (λ rows. get_or rows n []) c.self.view_is
