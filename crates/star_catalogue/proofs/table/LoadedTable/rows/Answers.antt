use Rattle.std.proofs.Common.{map, sym}
use Rattle.star_reader.{proofs.RowLemmas.length-first_rows, specs.Columns.values}
use Rattle.star_catalogue.specs.Private.Columns.{as_read}
use Rattle.star_catalogue.proofs.table.LoadedTable.rows.Goals as goal

pub returns : goal.returns
returns c = rw (← c.self.view_is)
    (sym (length-first_rows c.self.inside.rows
    (map values (map as_read c.self.inside.columns.items))))
