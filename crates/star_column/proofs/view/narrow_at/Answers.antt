use Rattle.std.proofs.{Common.{◌∙◌, Some, ap, arith, map, sym}, lemmas.List.length-map, lemmas.Option.get_or_from_slice_get}
use Rattle.star_column.proofs.Views.{number_there}
use Rattle.star_column.proofs.view.narrow_at.Goals as goal

pub overflow_cast-result : goal.overflow_cast-result
overflow_cast-result g c =
    let number = g.W.Word.number in
    let words = c.args.words.now in
    let there = get_or_from_slice_get (map number words) c.args.index
    (number c.index-words-index.result) 0
    (number_there number words c.args.index c.index-words-index.result c.requires.index
    c.index-words-index.is) in
    let narrow = c.requires.narrow c.args.index 0
    (omega (arith, c.requires.index, length-map words number)) in
    record { fits = omega (arith, narrow, there, c.value.ensures) }

pub returns : goal.returns
returns g c =
    number_there g.W.Word.number c.args.words.now c.args.index c.index-words-index.result
    c.requires.index c.index-words-index.is
    ∙ ap Some (sym c.value.ensures)
