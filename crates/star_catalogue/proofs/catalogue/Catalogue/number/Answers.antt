use Rattle.std.proofs.Common.{rules}
use Rattle.star_schema.specs.{Database.rows_in, Schema.position_of, Schema.table_of}
use Rattle.star_reader.proofs.RowIndexes.{length-numbers_at}
use Rattle.star_catalogue.proofs.catalogue.Catalogue.number.Goals as goal

pub at-requires : goal.at-requires
at-requires c =
    rw (
      c.numbers.ensures,
      length-numbers_at (position_of c.args.column)
          (rows_in c.deref.result.now (table_of c.args.column)),
      c.deref.ensures,
      c.self.view_is,
    )
    c.requires.row

pub returns : goal.returns
returns c = search rules
