use Rattle.std.proofs.{Common.arith, lemmas.Bool.leb-true, lemmas.Int.ints}
use Rattle.star_column.proofs.Differences.{width_8}
use Rattle.star_column.proofs.words.U8OffsetWord.is_least_for.Goals as goal

pub returns : goal.returns
returns c = λ h. width_8 c.args.span
    (omega (arith, ints, leb-true c.args.span c.from.result h))
