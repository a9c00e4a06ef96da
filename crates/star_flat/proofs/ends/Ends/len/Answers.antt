use Rattle.std.proofs.{Common.◌∙◌, lemmas.List.length-map, Common.arith}
use Rattle.star_flat.proofs.EndsLemmas.{length-ends_of}
use Rattle.star_flat.proofs.ends.Ends.len.Goals as goal

pub returns : goal.returns
returns c = grind (arith, length-map, length-ends_of)
