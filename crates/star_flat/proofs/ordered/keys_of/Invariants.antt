use Rattle.std.proofs.Common.{◌≡◌, length, map, take, vec_len, vec_capacity}
use Rattle.star_flat.specs.Private.Order.{key_of}
use Rattle.star_flat.proofs.ordered.keys_of.Given as goal

abbrev pub invariant-loop-index : goal.invariant-loop-index
invariant-loop-index l = record {
  items : l.keys.items ≡ map key_of (take l.index l.wholes);
  pushed : vec_len l.keys ≡ l.index;
  room : vec_capacity l.keys ≡ length l.wholes;
}
