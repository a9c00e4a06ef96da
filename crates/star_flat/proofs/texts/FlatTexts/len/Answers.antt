use Rattle.std.proofs.Common.{◌∙◌, arith}
use Rattle.star_flat.proofs.CutLemmas.{length-texts_from}
use Rattle.star_flat.proofs.texts.FlatTexts.len.Goals as goal

pub returns : goal.returns
returns c = grind (arith, length-texts_from)
