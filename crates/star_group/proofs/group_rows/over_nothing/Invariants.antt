use Rattle.star_group.proofs.Common.{◌≡◌, None, length, map, take, shown}
use Rattle.star_group.proofs.group_rows.over_nothing.Given as goal

abbrev pub invariant-loop-index : goal.invariant-loop-index
invariant-loop-index l = record {
  so_far : take l.index l.row ≡ map (λ g. shown g None) (take l.index l.aggregates);
  wide : length l.row ≡ 8;
}
