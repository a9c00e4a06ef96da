use Rattle.std.proofs.Common.{arith}
use Rattle.star_column.proofs.BitLists.{bits_joined}
use Rattle.star_column.proofs.mask.four.Goals as goal

pub returns-clause-bits : goal.returns-clause-bits
returns-clause-bits g c =
    omega (
      arith,
      c.two.ensures.bits,
      c.two-2.ensures.bits,
      bits_joined (g.T.RowTest.test c.args.test.now) (g.T.RowTest.numbers c.args.test.now)
          c.args.first 2 2 (omega (arith, c.requires.room)),
    )
