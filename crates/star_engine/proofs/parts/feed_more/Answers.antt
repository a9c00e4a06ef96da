use Rattle.std.proofs.Common.{arith, inr}
use Rattle.star_engine.proofs.parts.feed_more.Goals as goal

pub returns-then-left-count-clause-failed : goal.returns-then-left-count-clause-failed
returns-then-left-count-clause-failed g c = λ taken small had same.
    inr (omega (arith, small, had, c.if-left-count.true, c.in_ok-count.ensures.came))
