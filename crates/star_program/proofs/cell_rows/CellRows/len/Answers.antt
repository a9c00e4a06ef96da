use Rattle.std.proofs.Common.{length, ap, sym, ◌∙◌}
use Rattle.star_program.proofs.Rows.{length-cut}
use Rattle.star_program.proofs.cell_rows.CellRows.len.Goals as goal

pub returns : goal.returns
returns c =
    let s = c.self.inside in
    sym (length-cut s.width s.len s.cells.items) ∙ ap length c.self.view_is
