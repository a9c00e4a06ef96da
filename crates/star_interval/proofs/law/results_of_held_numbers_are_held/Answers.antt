-- Each clause is a lemma.
use Rattle.std.proofs.Common.{pos}
use Rattle.star_interval.proofs.{Ranges.hulls_held, Ranges.hulls_held_with, Sums.sums_held, Sums.differences_held, Products.products_held, Products.multiples_held}
use Rattle.star_interval.proofs.law.results_of_held_numbers_are_held.Goals as goal

pub returns-clause-sums : goal.returns-clause-sums
returns-clause-sums c = sums_held

pub returns-clause-differences : goal.returns-clause-differences
returns-clause-differences c = differences_held

pub returns-clause-products : goal.returns-clause-products
returns-clause-products c = products_held

pub returns-clause-multiples : goal.returns-clause-multiples
returns-clause-multiples c = multiples_held

pub returns-clause-hulls : goal.returns-clause-hulls
returns-clause-hulls c = hulls_held

pub returns-clause-with_zero : goal.returns-clause-with_zero
returns-clause-with_zero c = λ r z. hulls_held_with r (pos 0) z
