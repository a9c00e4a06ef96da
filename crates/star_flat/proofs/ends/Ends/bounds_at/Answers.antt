use Rattle.std.proofs.{Common.◌≡◌, Common.◌+◌, Common.◌-◌, Common.◌∙◌, Common.arith, lemmas.List.length-map}
use Rattle.star_flat.proofs.EndsLemmas.{end_fits, end_read, length-ends_of}
use Rattle.star_flat.proofs.ends.Ends.bounds_at.Goals as goal

pub two_indexes-before-requires : goal.two_indexes-before-requires
two_indexes-before-requires c = grind (arith, length-ends_of, length-map)

pub end_at-start-requires-clause-within : goal.end_at-start-requires-clause-within
end_at-start-requires-clause-within c = grind (arith, length-ends_of, length-map)

pub end_at-start-requires-clause-fits : goal.end_at-start-requires-clause-fits
end_at-start-requires-clause-fits c = grind (arith, end_fits)

pub end_at-end-requires-clause-within : goal.end_at-end-requires-clause-within
end_at-end-requires-clause-within c = grind (arith, length-ends_of, length-map)

pub end_at-end-requires-clause-fits : goal.end_at-end-requires-clause-fits
end_at-end-requires-clause-fits c = grind (arith, end_fits)

pub returns-clause-start : goal.returns-clause-start
returns-clause-start c = grind (arith, end_read)

pub returns-clause-end : goal.returns-clause-end
returns-clause-end c = grind (arith, end_read)
