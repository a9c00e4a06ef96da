use Rattle.std.proofs.{Common.◌∙◌, lemmas.Bool.eqb-true, lemmas.Bool.eq-eqb, lemmas.List.nil_from_length, Common.arith}
use Rattle.star_flat.proofs.texts.FlatTexts.is_empty.Goals as goal

pub returns : goal.returns
returns c = grind (arith, nil_from_length, eqb-true, eq-eqb)
