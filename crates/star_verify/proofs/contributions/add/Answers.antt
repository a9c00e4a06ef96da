use Rattle.std.proofs.Common.{◌≤◌, ◌+◌, ◌^◌, subst}
use Rattle.star_verify.specs.Private.Bounded.{IsBounded}
use Rattle.star_verify.proofs.contributions.add.Goals as goal

pub with-requires-clause-few : goal.with-requires-clause-few
with-requires-clause-few c =
    let same = c.tally_at-tally.ensures c.tally_at-tally.result in
    subst (λ tally. tally.many + c.args.met ≤ 2 ^ 62) same
    (c.requires.room c.tally_at-tally.result).room

pub with-requires-clause-bounded : goal.with-requires-clause-bounded
with-requires-clause-bounded c = subst IsBounded (c.tally_at-tally.ensures c.tally_at-tally.result)
    (c.requires.room c.tally_at-tally.result).bounded
