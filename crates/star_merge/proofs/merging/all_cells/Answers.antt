use Rattle.std.proofs.Common.{◌∙◌, ◌++◌, ap, map, sym}
use Rattle.star_program.specs.RowCells.{cell_of}
use Rattle.star_merge.proofs.Steps.{flat_more}
use Rattle.star_merge.proofs.merging.all_cells.Goals as goal

pub loop-group-preserved : goal.loop-group-preserved
loop-group-preserved c =
    let group = c.group-item.result in
    let items = c.args.items.now in
    c.in_ok-push_cells.ensures
    ∙ ap (λ cells. cells ++ map (cell_of group) items) c.loop-group.invariant
    ∙ sym (flat_more (λ group. map (cell_of group) items) c.args.groups.now c.loop-group.group-index
    group c.loop-group-test.true c.group-item.is)
