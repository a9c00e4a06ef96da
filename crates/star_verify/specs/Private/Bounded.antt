-- The size of a tally's sums: few numbers of 64 bits each.
use Rattle.std.specs.Prelude.{◌≤◌, ◌*◌, ◌^◌, ◌+ℤ◌, ◌≤ℤ◌, pos}
use Rattle.star_verify.specs.declared.tally.Tally.{Tally}

pub record IsBounded (tally : Tally) : Type 0 where
  pub many : tally.many ≤ 2 ^ 62
  pub low : pos 0 ≤ℤ (tally.sum.low +ℤ pos (tally.many * 2 ^ 63))
  pub high : tally.sum.high ≤ℤ pos (tally.many * 2 ^ 63)
