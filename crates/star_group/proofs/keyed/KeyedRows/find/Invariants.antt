use Rattle.star_group.proofs.{Common.keys_in, Tries.IsGoneDown}
use Rattle.star_group.proofs.keyed.KeyedRows.find.Given as goal

abbrev pub invariant-loop-depth : goal.invariant-loop-depth
invariant-loop-depth l =
    IsGoneDown l.self.listed.width (keys_in l.self) l.self.links.items l.key l.depth l.node
