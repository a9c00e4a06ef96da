use Rattle.star_engine.proofs.NoFaultDue.{run_is_answered, run_of_texts_is_answered}
use Rattle.star_engine.proofs.query_laws.reported_queries_have_no_fault.Goals as goal

pub returns-clause-over_rows : goal.returns-clause-over_rows
returns-clause-over_rows c = run_is_answered

pub returns-clause-of_texts : goal.returns-clause-of_texts
returns-clause-of_texts c = run_of_texts_is_answered
