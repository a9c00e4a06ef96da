use Rattle.std.proofs.Common.{map, refl}
use Rattle.star_reader.{specs.Columns.values, proofs.RowLemmas.length-first_rows}
use Rattle.star_reader.proofs.raw_table.RawTable.into_columns.Goals as goal

pub returns-clause-columns : goal.returns-clause-columns
returns-clause-columns c =
    let raw = c.self.inside in
    rw (← c.self.view_is, length-first_rows raw.rows (map values raw.columns.items))
    c.self.invariant

pub returns-clause-rows : goal.returns-clause-rows
returns-clause-rows c =
    let raw = c.self.inside in
    rw (← c.self.view_is, length-first_rows raw.rows (map values raw.columns.items)) refl
