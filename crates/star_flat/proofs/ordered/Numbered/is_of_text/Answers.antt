use Rattle.std.proofs.{Common.◌∙◌, Common.◌%◌, lemmas.Bool.ltb-true, Common.arith}
use Rattle.star_flat.proofs.Keys.{whole_same}
use Rattle.star_flat.proofs.ordered.Numbered.is_of_text.Goals as goal

pub returns-then-is_whole : goal.returns-then-is_whole
returns-then-is_whole c = grind (arith, whole_same, ltb-true)
