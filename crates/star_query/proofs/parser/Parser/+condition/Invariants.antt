use Rattle.std.proofs.Common.{◌≤◌, ◌-◌, ◌*◌, ◌+◌, Ok, length}
use Rattle.star_query.specs.Private.Reads.{spot_of, ReadsConj, ReadsCond, NoAnd}
use Rattle.star_query.proofs.parser.Parser.+condition.Given as goal

abbrev pub decreases-condition : goal.decreases-condition
decreases-condition l = 3 * (32 - l.depth) + 2

abbrev pub decreases-conjunction : goal.decreases-conjunction
decreases-conjunction l = 3 * (32 - l.depth) + 1

abbrev pub decreases-unit : goal.decreases-unit
decreases-unit l = 3 * (32 - l.depth)

-- the units so far are a conjunction
abbrev pub invariant-conjunction-loop-self : goal.invariant-conjunction-loop-self
invariant-conjunction-loop-self l =
    record {
      reads : ReadsConj l.depth (spot_of l.fn.self) (spot_of l.self) (Ok l.all);
      shorter : length l.self.rest.now ≤ length l.fn.self.rest.now;
    }

abbrev pub decreases-conjunction-loop-self : goal.decreases-conjunction-loop-self
decreases-conjunction-loop-self l = length l.self.rest.now

-- the conjunctions so far are a condition
abbrev pub invariant-condition-loop-self : goal.invariant-condition-loop-self
invariant-condition-loop-self l =
    record {
      reads : ReadsCond l.depth (spot_of l.fn.self) (spot_of l.self) (Ok l.any);
      ends : NoAnd (spot_of l.self);
      shorter : length l.self.rest.now ≤ length l.fn.self.rest.now;
    }

abbrev pub decreases-condition-loop-self : goal.decreases-condition-loop-self
decreases-condition-loop-self l = length l.self.rest.now
