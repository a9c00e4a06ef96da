use Rattle.star_engine.proofs.OneReport.{run_is_no_error, run_of_texts_is_no_error}
use Rattle.star_engine.proofs.law.reported_files_have_no_fault.Goals as goal

pub returns-clause-over_rows : goal.returns-clause-over_rows
returns-clause-over_rows c = run_is_no_error

pub returns-clause-of_texts : goal.returns-clause-of_texts
returns-clause-of_texts c = run_of_texts_is_no_error
