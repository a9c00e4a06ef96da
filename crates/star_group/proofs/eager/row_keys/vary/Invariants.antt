use Rattle.star_group.proofs.Common.{◌≡◌, ◌≤◌, ◌∷◌, [], List, map, length, filter, KeyValue, key_view, padded, keys_from, is_row_key}
use Rattle.star_group.proofs.eager.row_keys.vary.Given as goal

abbrev pub invariant-loop-index : goal.invariant-loop-index
invariant-loop-index l = record {
  below : l.index ≤ l.key_count;
  varied : (keys : List KeyValue) → length keys ≡ l.key_count
      → map key_view l.fn.row_keys.items ≡ padded 6 keys ∷ [] → map key_view l.row_keys.items
      ≡ filter (is_row_key l.shape l.key_count) (keys_from l.index l.key_count keys);
}

abbrev pub decreases-loop-index : goal.decreases-loop-index
decreases-loop-index l = l.index
