use Rattle.std.proofs.Common.{◌∙◌, arith}
use Rattle.star_flat.proofs.CutLemmas.{length-texts_from}
use Rattle.star_flat.proofs.texts.FlatTexts.get.Goals as goal

pub text_at-requires-clause-within : goal.text_at-requires-clause-within
text_at-requires-clause-within c = grind (arith, length-texts_from)
