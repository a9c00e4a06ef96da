-- Each clause is a lemma.
use Rattle.std.proofs.Common.{pos}
use Rattle.star_interval.proofs.{Ranges.hulls_within, Ranges.hulls_within_with, Sums.sums_within, Sums.differences_within, Products.products_within, Products.multiples_within}
use Rattle.star_interval.proofs.law.smaller_ranges_make_smaller_ranges.Goals as goal

pub returns-clause-sums : goal.returns-clause-sums
returns-clause-sums c = sums_within

pub returns-clause-differences : goal.returns-clause-differences
returns-clause-differences c = differences_within

pub returns-clause-products : goal.returns-clause-products
returns-clause-products c = products_within

pub returns-clause-multiples : goal.returns-clause-multiples
returns-clause-multiples c = multiples_within

pub returns-clause-hulls : goal.returns-clause-hulls
returns-clause-hulls c = hulls_within

pub returns-clause-with_zero : goal.returns-clause-with_zero
returns-clause-with_zero c = hulls_within_with (pos 0)
