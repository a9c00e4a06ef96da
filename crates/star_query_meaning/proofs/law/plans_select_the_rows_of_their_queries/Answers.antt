use Rattle.star_query_meaning.proofs.OwnWords.{selected_in_order, selected_reordered}
use Rattle.star_query_meaning.proofs.law.plans_select_the_rows_of_their_queries.Goals as goal

pub returns-clause-rows : goal.returns-clause-rows
returns-clause-rows c = selected_reordered

pub returns-clause-order : goal.returns-clause-order
returns-clause-order c = selected_in_order
