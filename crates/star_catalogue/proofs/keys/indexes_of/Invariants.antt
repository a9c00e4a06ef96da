use Rattle.std.specs.BTreeMap.{get}
use Rattle.star_catalogue.proofs.Repeats.{HasInserted}
use Rattle.star_catalogue.proofs.keys.indexes_of.Given as goal

abbrev pub invariant-loop-index : goal.invariant-loop-index
invariant-loop-index g l = HasInserted g.K.PartialEq.eq l.keys l.index (get g.K.Ord.cmp l.indexes)
