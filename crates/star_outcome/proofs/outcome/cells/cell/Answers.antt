use Rattle.std.proofs.Common.{ap, sym, ◌∙◌}
use Rattle.star_group.{proofs.Contents.if_ok, specs.StoreRows.row_at}
use Rattle.star_program.specs.{Outcome.decoded_row, RowCells.cell_of, RowCells.key_cell}
use Rattle.star_world.specs.WorldOf.{world_of}
use Rattle.star_outcome.proofs.DecodedRows.{decodable_at, decoded_at}
use Rattle.star_outcome.proofs.outcome.cells.cell.Goals as goal

pub key_cell-requires : goal.key_cell-requires
key_cell-requires c = rw (c.key.ensures, c.as_slice.ensures)
    (decodable_at c.args.catalogue.now c.args.declared.now.keys
    (row_at c.args.rows.now c.args.number).keys c.in-Key.index c.requires.keys)

pub returns-in-Key : goal.returns-in-Key
returns-in-Key c =
    let shown = rw (c.key.ensures, c.as_slice.ensures) at c.key_cell.ensures in
    if_ok _ _ c.key_cell.result (λ cell is.
    is
    ∙ ap key_cell (sym (decoded_at c.args.catalogue.now c.args.declared.now.keys
    (row_at c.args.rows.now c.args.number).keys c.in-Key.index c.requires.keys))
    ∙ ap (cell_of (decoded_row (world_of c.args.catalogue.now) c.args.declared.now
    (row_at c.args.rows.now c.args.number))) (sym c.in-Key.is))
    shown
