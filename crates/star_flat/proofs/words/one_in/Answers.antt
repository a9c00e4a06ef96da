use Rattle.std.specs.Option.{option_map}
use Rattle.std.proofs.{Common.{◌∙◌, Some, ap, length, refl, rules, sym}, Math.Facts.to_z-of_z, lemmas.Option.slice_get-map, lemmas.Option.slice_get_read}
use Rattle.star_flat.proofs.words.one_in.Goals as goal

pub returns : goal.returns
returns g c =
    let words = c.args.words.now in
    let number = g.W.SignedWord.number in
    let read = slice_get_read words (length words) c.args.index _ refl c.requires c.index-words-index.is in
    slice_get-map number words c.args.index ∙ ap (option_map number) read
    ∙ ap Some (sym c.value.ensures.value) ∙ search (to_z-of_z, rules)
