-- Each clause is a lemma.
use Rattle.star_interval.proofs.Ranges.{fits_held, fits_i128_held, fits_i64_fits, is_i128_fits}
use Rattle.star_interval.proofs.law.numbers_of_fitting_ranges_fit.Goals as goal

pub returns-clause-held : goal.returns-clause-held
returns-clause-held c = fits_held

pub returns-clause-test : goal.returns-clause-test
returns-clause-test c = fits_i64_fits

pub returns-clause-held_128 : goal.returns-clause-held_128
returns-clause-held_128 c = fits_i128_held

pub returns-clause-test_128 : goal.returns-clause-test_128
returns-clause-test_128 c = is_i128_fits
