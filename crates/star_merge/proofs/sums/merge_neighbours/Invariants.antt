use Rattle.std.proofs.Common.{vec_len}
use Rattle.star_merge.specs.Private.Adding.{HasJoined}
use Rattle.star_merge.proofs.sums.merge_neighbours.Given as goal

abbrev pub decreases-loop-group : goal.decreases-loop-group
decreases-loop-group l = vec_len l.rest

abbrev pub invariant-loop-group : goal.invariant-loop-group
invariant-loop-group l = HasJoined l.aggregates l.fn.groups.items l.rest.items l.merged.items
