use Rattle.std.proofs.Common.{◌≡◌, map, take}
use Rattle.star_merge.specs.Cells.{key_of}
use Rattle.star_merge.proofs.groupings.copied_keys.Given as goal

abbrev pub invariant-loop-key : goal.invariant-loop-key
invariant-loop-key l = map key_of l.copies.items ≡ map key_of (take l.key-index l.keys)
