use Rattle.star_merge.proofs.PlainReports.{merged_answer, of_shape}
use Rattle.star_merge.proofs.law.merged_rows_are_answers.Goals as goal

pub returns-clause-shape : goal.returns-clause-shape
returns-clause-shape c = λ database p reports are. of_shape database p reports are

pub returns-clause-answer : goal.returns-clause-answer
returns-clause-answer c = λ database p reports rows sound are merged.
    merged_answer database p reports rows sound are merged
