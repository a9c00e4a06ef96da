use Rattle.std.proofs.Common.{length, arith}
use Rattle.star_common.proofs.NumeralLemmas.{some_below_power}
use Rattle.star_program.proofs.spelling.numerals.numeral.Goals as goal

pub returns-clause-bound : goal.returns-clause-bound
returns-clause-bound c =
    some_below_power c.numeral_value.result (length c.args.word.now) c.args.width
    c.numeral_value.ensures.bound (omega arith)
