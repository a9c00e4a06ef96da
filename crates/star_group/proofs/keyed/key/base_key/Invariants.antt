use Rattle.star_group.proofs.Common.{◌≡◌, take, key_view, padded}
use Rattle.star_group.proofs.keyed.key.base_key.Given as goal

abbrev pub invariant-loop-index : goal.invariant-loop-index
invariant-loop-index l = key_view l.parts ≡ padded 6 (take l.index l.keys)
