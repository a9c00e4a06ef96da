use Rattle.std.proofs.{Common.length, Common.ap, Common.◌∙◌, lemmas.List.length-map}
use Rattle.star_program.{specs.Outcome.decoded_row, specs.RowCells.cell_of, specs.Rows.cut, proofs.Rows.{cut_rows, length-rows}}
use Rattle.star_group.specs.StoreRows.{row_at}
use Rattle.star_outcome.specs.Private.Decoded.{row_cells}
use Rattle.star_world.specs.WorldOf.{world_of}
use Rattle.star_outcome.proofs.outcome.cells.cell_rows.Goals as goal

pub from_cells-requires : goal.from_cells-requires
from_cells-requires c =
    let w = world_of c.args.catalogue.now in
    let d = c.args.declared.now in
    let shows = c.args.shows.now in
    ap length c.in_ok-cells.ensures
    ∙ length-rows (length shows) (λ number. row_cells w d shows (row_at c.args.rows.now number))
    (λ number. length-map shows
    (λ show. cell_of (decoded_row w d (row_at c.args.rows.now number)) show.column))
    c.args.numbers.now

pub returns : goal.returns
returns c =
    let w = world_of c.args.catalogue.now in
    let d = c.args.declared.now in
    let shows = c.args.shows.now in
    c.from_cells.ensures
    ∙ ap (cut (length shows) (length c.args.numbers.now)) c.in_ok-cells.ensures
    ∙ cut_rows (length shows) (λ number. row_cells w d shows (row_at c.args.rows.now number))
    (λ number. length-map shows
    (λ show. cell_of (decoded_row w d (row_at c.args.rows.now number)) show.column))
    c.args.numbers.now
