use Rattle.std.proofs.{Common.arith, lemmas.Bool.leb-true, lemmas.Int.ints}
use Rattle.star_column.proofs.Differences.{width_32}
use Rattle.star_column.proofs.words.U32OffsetWord.is_least_for.Goals as goal

pub returns-then-span-from : goal.returns-then-span-from
returns-then-span-from c = λ h. width_32 c.args.span (omega (arith, ints))
    (omega (arith, ints, leb-true c.args.span c.from-then-span-from.result h))
