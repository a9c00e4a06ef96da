use Rattle.star_schema.specs.Schema.{kinds_of}
use Rattle.star_reader.proofs.progress.Progress.new.Goals as goal

pub returns-clause-line : goal.returns-clause-line
returns-clause-line c = λ table. c.new.ensures (kinds_of table)
