use Rattle.std.{proofs.Common.{◌≡◌, None, map}, specs.Prelude.replicate}
use Rattle.star_merge.specs.Cells.{key_of}
use Rattle.star_merge.proofs.merging.hidden_keys.Given as goal

abbrev pub invariant-loop-index : goal.invariant-loop-index
invariant-loop-index l = map key_of l.keys.items ≡ replicate l._index None
