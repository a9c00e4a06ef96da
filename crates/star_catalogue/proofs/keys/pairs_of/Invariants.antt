use Rattle.std.{proofs.Common.{◌≡◌, length, take, vec_len, vec_capacity}, specs.List.zip}
use Rattle.star_catalogue.proofs.keys.pairs_of.Given as goal

abbrev pub invariant-loop-index : goal.invariant-loop-index
invariant-loop-index l = record {
  pairs : l.pairs.items ≡ take l.index (zip l.firsts l.seconds);
  pushed : vec_len l.pairs ≡ l.index;
  room : vec_capacity l.pairs ≡ length l.firsts;
}
