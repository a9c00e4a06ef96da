use Rattle.std.proofs.Common.{rules}
use Rattle.star_schema.specs.{Database.rows_in, Schema.position_of, Schema.table_of}
use Rattle.star_reader.proofs.RowIndexes.{length-texts_at}
use Rattle.star_catalogue.proofs.catalogue.Catalogue.code.Goals as goal

pub code_at-requires : goal.code_at-requires
code_at-requires c =
    rw (
      c.texts.ensures,
      length-texts_at (position_of c.args.column)
          (rows_in c.deref.result.now (table_of c.args.column)),
      c.deref.ensures,
      c.self.view_is,
    ) c.requires.row

pub returns-clause-stands : goal.returns-clause-stands
returns-clause-stands c = search rules
