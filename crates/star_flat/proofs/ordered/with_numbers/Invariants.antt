use Rattle.std.{proofs.Common.{◌≡◌, All, length, map, vec_len, vec_capacity}, specs.List.range_with_len}
use Rattle.star_flat.specs.Private.Order.{IsKeyed}
use Rattle.star_flat.proofs.ordered.with_numbers.Given as goal

abbrev pub invariant-loop-index : goal.invariant-loop-index
invariant-loop-index l = record {
  numbers : map (λ e. e.number) l.numbered.items ≡ range_with_len 0 l.index;
  keys : All (IsKeyed l.texts) l.numbered.items;
  pushed : vec_len l.numbered ≡ l.index;
  room : vec_capacity l.numbered ≡ length l.texts;
}
