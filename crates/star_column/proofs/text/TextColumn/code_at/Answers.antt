use Rattle.std.proofs.Common.{arith}
use Rattle.star_column.{specs.Private.Words.numbers_in, proofs.Numbers.{code_stands, code_within, length-texts_at}}
use Rattle.star_flat.specs.Repeated.{texts_at_indexes}
use Rattle.star_schema.proofs.Dictionaries.{length-dictionary_of-le}
use Rattle.star_column.proofs.text.TextColumn.code_at.Goals as goal

pub overflow_cast-result : goal.overflow_cast-result
overflow_cast-result c =
    let dictionary = c.self.inside.dictionary in
    let codes = numbers_in c.self.inside.codes in
    let within = code_within dictionary codes c.args.row c.at.result c.self.invariant.0
    c.at.ensures in
    let le = length-dictionary_of-le (texts_at_indexes dictionary codes) in
    omega (arith, within, le, length-texts_at dictionary codes, c.self.invariant.0.few)

pub returns-clause-stands : goal.returns-clause-stands
returns-clause-stands c =
    rw (← c.self.view_is)
    (code_stands c.self.inside.dictionary (numbers_in c.self.inside.codes) c.args.row c.at.result
    c.self.invariant.0 c.at.ensures)

pub returns-clause-within : goal.returns-clause-within
returns-clause-within c =
    rw (← c.self.view_is)
    (code_within c.self.inside.dictionary (numbers_in c.self.inside.codes) c.args.row c.at.result
    c.self.invariant.0 c.at.ensures)
