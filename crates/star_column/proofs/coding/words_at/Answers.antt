use Rattle.std.proofs.Common.{arith}
use Rattle.star_column.proofs.Differences.{width_8, width_16, width_32}
use Rattle.star_column.proofs.coding.words_at.Goals as goal

pub returns-in_ok-codes_at-clause-width : goal.returns-in_ok-codes_at-clause-width
returns-in_ok-codes_at-clause-width c =
    width_8 _ (omega (arith, c.saturating_sub-span.ensures, c.from.ensures, c.if-span-from.true))

pub returns-in_ok-codes_at-2-clause-width : goal.returns-in_ok-codes_at-2-clause-width
returns-in_ok-codes_at-2-clause-width c =
    width_16 _
    (omega (arith, c.saturating_sub-span.ensures, c.from.ensures, c.if-span-from.false))
    (omega (
      arith,
      c.saturating_sub-span.ensures,
      c.from-else-span-from.ensures,
      c.if-span-from-2.true,
    ))

pub returns-in_ok-codes_at-3-clause-width : goal.returns-in_ok-codes_at-3-clause-width
returns-in_ok-codes_at-3-clause-width c =
    width_32 _
    (omega (
      arith,
      c.saturating_sub-span.ensures,
      c.from-else-span-from.ensures,
      c.if-span-from-2.false,
    ))
    (omega (arith, c.ranges.entries.fits))
