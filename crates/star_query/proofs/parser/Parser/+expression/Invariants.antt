use Rattle.std.proofs.Common.{◌≤◌, ◌-◌, ◌*◌, ◌+◌, Ok, length}
use Rattle.star_query.specs.Private.Reads.{spot_of, ReadsTerm, ReadsExpr, NoTimes}
use Rattle.star_query.proofs.parser.Parser.+expression.Given as goal

abbrev pub decreases-expression : goal.decreases-expression
decreases-expression l = 3 * (32 - l.depth) + 2

abbrev pub decreases-term : goal.decreases-term
decreases-term l = 3 * (32 - l.depth) + 1

abbrev pub decreases-factor : goal.decreases-factor
decreases-factor l = 3 * (32 - l.depth)

-- the factors so far are a term
abbrev pub invariant-term-loop-self : goal.invariant-term-loop-self
invariant-term-loop-self l =
    record {
      reads : ReadsTerm l.depth (spot_of l.fn.self) (spot_of l.self) (Ok l.product);
      shorter : length l.self.rest.now ≤ length l.fn.self.rest.now;
    }

abbrev pub decreases-term-loop-self : goal.decreases-term-loop-self
decreases-term-loop-self l = length l.self.rest.now

abbrev pub invariant-expression-loop-sign : goal.invariant-expression-loop-sign
invariant-expression-loop-sign l =
    record {
      reads : ReadsExpr l.depth (spot_of l.fn.self) (spot_of l.self) (Ok l.sum);
      ends : NoTimes (spot_of l.self);
      shorter : length l.self.rest.now ≤ length l.fn.self.rest.now;
    }

abbrev pub decreases-expression-loop-sign : goal.decreases-expression-loop-sign
decreases-expression-loop-sign l = length l.self.rest.now
