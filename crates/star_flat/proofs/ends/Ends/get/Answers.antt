use Rattle.std.proofs.{Common.◌∙◌, Common.arith, lemmas.List.length-map}
use Rattle.star_flat.proofs.EndsLemmas.{end_fits, end_read, length-ends_of}
use Rattle.star_flat.proofs.ends.Ends.get.Goals as goal

pub index_at-requires : goal.index_at-requires
index_at-requires c = grind (arith, length-ends_of, length-map)

pub end_at-requires-clause-within : goal.end_at-requires-clause-within
end_at-requires-clause-within c = grind (arith, length-ends_of, length-map)

pub end_at-requires-clause-fits : goal.end_at-requires-clause-fits
end_at-requires-clause-fits c = grind (arith, end_fits)

pub returns : goal.returns
returns c = grind (arith, end_read)
