use Rattle.std.proofs.Common.{sym}
use Rattle.star_reader.proofs.ColumnLemmas.{numbers_are}
use Rattle.star_catalogue.proofs.{Placed.IsKeptAs, Placed.column_at, table.LoadedTable.numbers.Goals.After-index}
use Rattle.star_catalogue.proofs.table.LoadedTable.numbers.Goals as goal

column : (c : After-index) → IsKeptAs c.self.inside c.args.column c.index.result.now
column c =
    column_at c.args.column c.self.invariant (rw (← c.self.view_is) at c.requires.table)
    c.position_of.ensures.index c.index.ensures

pub unreachable-requires : goal.unreachable-requires
unreachable-requires c =
    let is = column (goal.at.unreachable-requires c).After-index in
    let bad = rw (c.in-Texts.is, c.requires.kind) at is.kind in cc bad

pub returns : goal.returns
returns c =
    let is = column (goal.at.returns c).After-index in
    rw (← c.self.view_is) (sym (numbers_are (rw c.in-Numbers.is at is)))
