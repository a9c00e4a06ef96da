use Rattle.std.{proofs.Common.{rules, FitsSigned, w64, ap, ◌∙◌, to_z-of_z}, specs.Option.option_map}
use Rattle.star_schema.specs.Tables.{Number}
use Rattle.star_reader.proofs.RowIndexes.{length-numbers_at}
use Rattle.star_reader.proofs.raw_table.RawTable.number.Goals as goal

pub get-requires : goal.get-requires
get-requires c =
    rw (c.numbers.ensures.numbers, length-numbers_at c.args.index c.args.self.now.rows)
    c.requires.row

pub returns : goal.returns
returns c =
    let fits : FitsSigned w64 c.get.result = search rules in
    rw (to_z-of_z fits)
    (c.numbers.ensures.values c.args.row ∙ ap (option_map Number) c.get.ensures)
