use Rattle.star_group.proofs.Common.{◌≡◌, List, Some, drop, length, take, KeyValue}
use Rattle.star_group.specs.Ids as spec
use Rattle.star_group.proofs.array_store.ids.keys_at.Given as goal

abbrev pub invariant-loop-index : goal.invariant-loop-index
invariant-loop-index l = record {
  left : (keys : List KeyValue) → spec.group_id l.spans keys ≡ Some l.id
      → spec.group_id (drop l.index l.spans) (drop l.index keys) ≡ Some l.left;
  same : (keys : List KeyValue) → spec.group_id l.spans keys ≡ Some l.id
      → take l.index l.keys ≡ take l.index keys;
  wide : length l.keys ≡ 6;
}
