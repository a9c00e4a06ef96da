use Rattle.std.{proofs.Common.{◌≡◌, All, length, map, vec_len, vec_capacity}, specs.List.range_with_len}
use Rattle.star_flat.specs.Private.Order.{IsWhole}
use Rattle.star_flat.proofs.ordered.wholes.Given as goal

abbrev pub invariant-loop-index : goal.invariant-loop-index
invariant-loop-index l = record {
  numbers : map (λ e. e.number) l.wholes.items ≡ range_with_len 0 l.index;
  wholes : All (IsWhole l.texts) l.wholes.items;
  pushed : vec_len l.wholes ≡ l.index;
  room : vec_capacity l.wholes ≡ length l.texts;
}
