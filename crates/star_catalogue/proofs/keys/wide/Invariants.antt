use Rattle.std.proofs.Common.{◌≡◌, length, take, vec_len, vec_capacity}
use Rattle.star_catalogue.proofs.keys.wide.Given as goal

abbrev pub invariant-loop-index : goal.invariant-loop-index
invariant-loop-index l = record {
  numbers : l.wide.items ≡ take l.index l.numbers;
  pushed : vec_len l.wide ≡ l.index;
  room : vec_capacity l.wide ≡ length l.numbers;
}
