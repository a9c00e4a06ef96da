use Rattle.std.proofs.{Common.◌∙◌, Common.◌≡◌, Common.[], Common.arith, Common.rules, Common.FitsSigned, Common.pos, Common.sym, Common.w64, lemmas.Option.get_or_from_slice_get, lemmas.Option.slice_get-get_or}
use Rattle.star_schema.{specs.Database.rows_in, specs.Schema.table_of, specs.Dictionary.dictionary_of, specs.Columns.{column_numbers, column_texts}, proofs.Dictionaries.IsDictionary-dictionary_of, proofs.TextIndexes.low_in-index}
use Rattle.star_world.{proofs.Loaded.texts_len, specs.WorldOf.world_of}
use Rattle.star_outcome.proofs.lookups.load.Goals as goal

pub returns-then-is_text-clause-value : goal.returns-then-is_text-clause-value
returns-then-is_text-clause-value c =
    let texts = column_texts c.args.catalogue.now c.args.column in
    let code : c.code.result ≡ (world_of c.args.catalogue.now).code c.args.column c.args.row =
    sym (low_in-index (dictionary_of texts) (IsDictionary-dictionary_of texts).sorted c.code.result
    _ (c.code.ensures.stands
    ∙ slice_get-get_or texts c.args.row []
    (omega (
      arith,
      c.requires,
      texts_len c.args.column (rows_in c.args.catalogue.now (table_of c.args.column)),
    )))) in
    search rules

pub returns-else-is_text-clause-value : goal.returns-else-is_text-clause-value
returns-else-is_text-clause-value c =
    let fits : FitsSigned w64 c.number.result = search rules in
    let number : c.number.result ≡ (world_of c.args.catalogue.now).number c.args.column c.args.row =
    sym (get_or_from_slice_get (column_numbers c.args.catalogue.now c.args.column) c.args.row
    c.number.result (pos 0) c.number.ensures) in
    search rules
