-- The clause is a lemma.
use Rattle.star_query_meaning.proofs.OwnFits.{own_fits}
use Rattle.star_query_meaning.proofs.law.plans_fit_where_their_queries_do.Goals as goal

pub returns : goal.returns
returns c = own_fits
