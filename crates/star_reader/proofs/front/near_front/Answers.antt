use Rattle.std.proofs.{Common.{◌∙◌, ap, arith, sym, take}, lemmas.List.length-take-le, lemmas.Simd.{leading_from_mask_l, trailing_mask_l}}
use lib.Count.{count_trailing_zeros}
use Rattle.star_reader.specs.Private.Fronts.{is_stop}
use Rattle.star_reader.proofs.front.near_front.Goals as goal

pub returns-then-stops-eq0 : goal.returns-then-stops-eq0
returns-then-stops-eq0 c =
    sym (leading_from_mask_l is_stop (take 16 c.args.text.now)
    (sym c.stops-stops.ensures ∙ c.if-stops-eq0.true)
    ∙ length-take-le 16 c.args.text.now c.requires)

pub returns-else-stops-eq0 : goal.returns-else-stops-eq0
returns-else-stops-eq0 c =
    ap (count_trailing_zeros 64) c.stops-stops.ensures
    ∙ trailing_mask_l is_stop 64 (take 16 c.args.text.now)
    (omega (arith, length-take-le 16 c.args.text.now c.requires))
    (omega (arith, c.if-stops-eq0.false, c.stops-stops.ensures))
