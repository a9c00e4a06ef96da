-- The bits of the eights from one on.
use Rattle.std.{proofs.Common.{◌≡◌, ◌≤◌, ◌+◌, ◌-◌, ◌*◌, map}, specs.Simd.Lanes.{chunk, mask_l}}
use Rattle.star_column.proofs.mask.mask_by_eights.Given as goal

abbrev pub invariant-loop-byte : goal.invariant-loop-byte
invariant-loop-byte g l = record {
  within : l.byte ≤ 8;
  bits : l.bits ≡ mask_l (map (g.T.RowTest.test l.test)
      (chunk (l.first + 8 * l.byte) (64 - 8 * l.byte) (g.T.RowTest.numbers l.test)));
}
