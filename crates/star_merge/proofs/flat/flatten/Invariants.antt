use Rattle.star_merge.specs.Private.Flat.{AreFlattened}
use Rattle.star_merge.proofs.flat.flatten.Given as goal

abbrev pub invariant-loop-index : goal.invariant-loop-index
invariant-loop-index l = AreFlattened l.cells l.numbers l.texts l.index
