use Rattle.std.proofs.Common.{sym}
use Rattle.star_reader.proofs.RowLemmas.{length-first_rows}
use Rattle.star_reader.proofs.raw_table.RawTable.rows.Goals as goal

pub returns : goal.returns
returns c = rw (← c.self.view_is) (sym (length-first_rows c.self.inside.rows _))
