use Rattle.std.{proofs.Common.{◌-ℤ◌, arith}, proofs.lemmas.Int.ints, specs.Int.RustNames.unsigned_abs}
use Rattle.star_column.proofs.Differences.{width_8, width_16, width_32, width_64}
use Rattle.star_column.proofs.words.Words.of_numbers.Goals as goal

pub returns-in_ok-differences-clause-width : goal.returns-in_ok-differences-clause-width
returns-in_ok-differences-clause-width g c =
    width_8 (unsigned_abs (c.args.bounds.high -ℤ c.args.bounds.low)) (omega (arith, ints))

pub returns-in_ok-differences-2-clause-width : goal.returns-in_ok-differences-2-clause-width
returns-in_ok-differences-2-clause-width g c =
    width_16 (unsigned_abs (c.args.bounds.high -ℤ c.args.bounds.low)) (omega (arith, ints))
    (omega (arith, ints))

pub returns-in_ok-differences-3-clause-width : goal.returns-in_ok-differences-3-clause-width
returns-in_ok-differences-3-clause-width g c =
    width_32 (unsigned_abs (c.args.bounds.high -ℤ c.args.bounds.low)) (omega (arith, ints))
    (omega (arith, ints))

pub returns-in_ok-differences-4-clause-width : goal.returns-in_ok-differences-4-clause-width
returns-in_ok-differences-4-clause-width g c =
    width_64 (unsigned_abs (c.args.bounds.high -ℤ c.args.bounds.low)) (omega (arith, ints))
