use Rattle.std.proofs.Common.{◌∙◌, ◌≤◌, FitsSigned, ap, length, rules, to_z-of_z, w64}
use Rattle.star_merge.{specs.Private.Flat.flat_cell, proofs.FlatCells.{shown_all, shown_more}}
use Rattle.star_merge.proofs.flat.unflattened.Goals as goal

pub loop-index-preserved : goal.loop-index-preserved
loop-index-preserved c =
    let fits : FitsSigned w64 c.get.result = search rules in
    shown_more _ _ _ _ _ _ _ _ c.loop-index.invariant c.get.ensures c.get-in-loop-index.ensures
    (c.in_ok-new.ensures ∙ (c.in_ok-cell.ensures
    ∙ ap (λ n. flat_cell n c.get-in-loop-index.result.now) (to_z-of_z fits)))
    c.in_ok-push.ensures.items

pub returns : goal.returns
returns c =
    let past : length c.args.numbers.now ≤ c.loop-index.index = search rules in
    shown_all _ _ _ _ c.requires past c.loop-index.invariant
