use Rattle.star_group.proofs.Common.{◌≡◌, ◌≤◌, ◌<◌, ◌*◌, ◌^◌, length, id_count}
use Rattle.star_group.proofs.array_store.making.spans_of.Given as goal

abbrev pub invariant-loop-index : goal.invariant-loop-index
invariant-loop-index l = record {
  count : l.count ≡ id_count l.spans.items;
  room : l.count * l.left ≤ 2 ^ 28;
  some : 0 < l.left;
  keys : length l.spans.items ≡ l.index;
}
