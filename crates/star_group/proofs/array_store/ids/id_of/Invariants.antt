use Rattle.star_group.proofs.Common.{◌≡◌, ◌≤◌, drop, length}
use Rattle.star_group.specs.Ids as spec
use Rattle.star_group.proofs.array_store.ids.id_of.Given as goal

abbrev pub invariant-loop-index : goal.invariant-loop-index
invariant-loop-index l = record {
  behind : l.id ≡ spec.group_id (drop l.index l.spans) (drop l.index l.keys);
  within : l.index ≤ length l.spans;
}

abbrev pub decreases-loop-index : goal.decreases-loop-index
decreases-loop-index l = l.index
