use Rattle.std.proofs.Common.{◌≤◌, Ok, length}
use Rattle.star_query.specs.Private.Reads.{spot_of}
use Rattle.star_query.proofs.parser.Parser.several.Given as goal

-- what was read so far is a list
abbrev pub invariant-loop-self : goal.invariant-loop-self
invariant-loop-self g l =
    record {
      reads : g.L.Listing.ReadsAll (spot_of l.fn.self) (spot_of l.self) (Ok l.several);
      shorter : length l.self.rest.now ≤ length l.fn.self.rest.now;
    }

abbrev pub decreases-loop-self : goal.decreases-loop-self
decreases-loop-self g l = length l.self.rest.now
