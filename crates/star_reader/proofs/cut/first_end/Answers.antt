use Rattle.std.proofs.{Common.{◌≤◌, ◌∙◌, arith, get_or, length, sym}, lemmas.List.take_all}
use Rattle.star_reader.{specs.Carried.is_inner, proofs.CutIndexes.other_inner, proofs.Fronts.one_more}
use Rattle.star_reader.proofs.cut.first_end.Goals as goal

pub returns-then-is_end : goal.returns-then-is_end
returns-then-is_end c =
    (omega arith, c.loop-index.invariant, sym c.is_end.ensures ∙ c.if-is_end.true)

pub loop-index-preserved : goal.loop-index-preserved
loop-index-preserved c =
    one_more is_inner c.args.piece.now c.loop-index.index (omega arith) c.loop-index.invariant
    (other_inner (get_or c.args.piece.now c.loop-index.index 0)
    (sym c.is_end.ensures ∙ c.if-is_end.false))

pub returns : goal.returns
returns c =
    let all : length c.args.piece.now ≤ c.loop-index.index =
    omega (arith, c.loop-index-test.false) in
    rw (take_all c.loop-index.index c.args.piece.now all) at c.loop-index.invariant
