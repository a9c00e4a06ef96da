use Rattle.star_reader.proofs.PieceLaws.{any_cut, any_cut_fault}
use Rattle.star_reader.proofs.laws.any_cut_gives_the_records_of_the_text.Goals as goal

pub returns-clause-records : goal.returns-clause-records
returns-clause-records c = any_cut

pub returns-clause-fault : goal.returns-clause-fault
returns-clause-fault c = any_cut_fault
