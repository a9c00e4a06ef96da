use Rattle.star_safety.proofs.QuoteSums.{quote_is_the_sum}
use Rattle.star_safety.proofs.law.a_quote_is_the_sum_over_the_scans.Goals as goal

pub returns : goal.returns
returns c = quote_is_the_sum
