use Rattle.std.{proofs.Common.{ap, ◌∙◌}, specs.Option.option_map}
use Rattle.star_schema.specs.Tables.{Text}
use Rattle.star_reader.proofs.RowIndexes.{length-texts_at}
use Rattle.star_reader.proofs.raw_table.RawTable.text.Goals as goal

pub get-requires : goal.get-requires
get-requires c =
    rw (c.texts.ensures.texts, length-texts_at c.args.index c.args.self.now.rows)
    c.requires.row

pub returns : goal.returns
returns c = c.texts.ensures.values c.args.row ∙ ap (option_map Text) c.get.ensures
