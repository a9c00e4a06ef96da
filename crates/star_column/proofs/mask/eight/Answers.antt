use Rattle.std.proofs.Common.{arith}
use Rattle.star_column.proofs.BitLists.{bits_joined}
use Rattle.star_column.proofs.mask.eight.Goals as goal

pub returns-clause-bits : goal.returns-clause-bits
returns-clause-bits g c =
    omega (
      arith,
      c.four.ensures.bits,
      c.four-2.ensures.bits,
      bits_joined (g.T.RowTest.test c.args.test.now) (g.T.RowTest.numbers c.args.test.now)
          c.args.first 4 4 (omega (arith, c.requires.room)),
    )
