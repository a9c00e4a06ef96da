use Rattle.std.proofs.Common.{◌∙◌, FitsSigned, Some, ap, map, rules, sym, to_z-of_z, w64}
use Rattle.star_interval.specs.Interval.{range_of}
use Rattle.star_column.proofs.{Differences.packed_at, Views.lent_holds, Views.number_there}
use Rattle.star_column.proofs.view.number_at.Goals as goal

pub number_above-requires : goal.number_above-requires
number_above-requires g c =
    let bounds = c.args.bounds in
    lent_holds (range_of bounds) bounds.low (map g.W.Word.number c.args.words.now) c.args.index
    c.value.result c.requires.held
    (number_there g.W.Word.number c.args.words.now c.args.index c.index-words-index.result
    c.requires.index c.index-words-index.is
    ∙ ap Some (sym c.value.ensures))

pub returns : goal.returns
returns g c =
    let fits : FitsSigned w64 c.number_above.result = search rules in
    rw (to_z-of_z, c.number_above.ensures)
    (packed_at c.args.bounds.low (map g.W.Word.number c.args.words.now) c.args.index c.value.result
    (number_there g.W.Word.number c.args.words.now c.args.index c.index-words-index.result
    c.requires.index c.index-words-index.is
    ∙ ap Some (sym c.value.ensures)))
