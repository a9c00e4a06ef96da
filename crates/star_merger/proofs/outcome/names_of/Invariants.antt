use Rattle.std.proofs.Common.{◌≡◌, map, take}
use Rattle.star_merger.proofs.outcome.names_of.Given as goal

abbrev pub invariant-loop-show : goal.invariant-loop-show
invariant-loop-show l = l.names.items ≡ map (λ show. show.name) (take l.show-index l.shows)
