-- The clause is a lemma.
use Rattle.star_safety.proofs.RowsAtMost.{rows_at_most}
use Rattle.star_safety.proofs.law.reports_have_no_more_rows_than_keys_allow.Goals as goal

pub returns : goal.returns
returns c = λ w parts accepted. rows_at_most w parts accepted
