-- Before the instruction that is refused all that is known fits 64 bits.
use Rattle.star_safety.proofs.{Quoted.told_visits_fit, ToldBounds.told_bounds_fit, ToldColumns.told_columns_fit}
use Rattle.star_safety.proofs.law.told_bounds_fit_128_bits.Goals as goal

pub returns-clause-range : goal.returns-clause-range
returns-clause-range c = λ w most parts at low high columns.
    told_bounds_fit w most parts at (record { low = low; high = high }) columns

pub returns-clause-columns : goal.returns-clause-columns
returns-clause-columns c = told_columns_fit

pub returns-clause-visits : goal.returns-clause-visits
returns-clause-visits c = told_visits_fit
