use Rattle.std.proofs.{Common.length, Common.map, Common.ap, Common.◌∙◌, lemmas.List.length-map}
use Rattle.star_program.{specs.RowCells.cell_of, specs.Rows.cut, proofs.Rows.{cut_rows, length-rows}}
use Rattle.star_merge.proofs.merging.cell_rows.Goals as goal

pub from_cells-requires : goal.from_cells-requires
from_cells-requires c =
    let items = c.args.items.now in
    ap length c.in_ok-cells.ensures
    ∙ length-rows (length items) (λ group. map (cell_of group) items)
    (λ group. length-map items (cell_of group)) c.args.groups.now

pub returns : goal.returns
returns c =
    let items = c.args.items.now in
    c.from_cells.ensures
    ∙ ap (cut (length items) (length c.args.groups.now)) c.in_ok-cells.ensures
    ∙ cut_rows (length items) (λ group. map (cell_of group) items)
    (λ group. length-map items (cell_of group)) c.args.groups.now
