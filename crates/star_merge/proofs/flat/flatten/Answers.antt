use Rattle.std.proofs.Common.{◌≡◌, ◌∙◌, ◌<◌, ◌++◌, [], ◌∷◌, FitsSigned, ap, length, rules, to_z-of_z, w64}
use Rattle.star_merge.{specs.Private.Flat.flat_cell, proofs.FlatCells.{flattened_more, flattened_none}}
use Rattle.star_merge.proofs.flat.flatten.Goals as goal

pub loop-index-init : goal.loop-index-init
loop-index-init c = flattened_none _ _ _ c.requires.numbers c.requires.texts

pub loop-index-preserved : goal.loop-index-preserved
loop-index-preserved c =
    let less : c.loop-index.index < length c.args.cells.now = search rules in
    let is : flat_cell c.in-Some.number c.in-Some.text.now ≡ c.index-cells-index.result =
    search rules in
    let fits : FitsSigned w64 c.in-Some.number = search rules in
    flattened_more _ _ _ _ _ _ _ _ _ c.loop-index.invariant less c.index-cells-index.is is
    (c.in_ok-push.ensures.ok
    ∙ ap (λ n. c.loop-index.numbers ++ n ∷ []) (to_z-of_z fits))
    c.in_ok-push-2.ensures.ok
