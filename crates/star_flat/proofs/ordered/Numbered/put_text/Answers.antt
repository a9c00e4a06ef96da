use Rattle.std.proofs.{Common.◌≡◌, Common.◌∙◌, Common.◌%◌, Common.◌++◌, Common.◌∷◌, Common.arith, lemmas.Bool.ltb-true}
use Rattle.star_flat.proofs.Keys.{front_is}
use Rattle.star_flat.proofs.ordered.Numbered.put_text.Goals as goal

pub returns-then-is_whole-clause-ok : goal.returns-then-is_whole-clause-ok
returns-then-is_whole-clause-ok c = grind (arith, front_is, ltb-true)
