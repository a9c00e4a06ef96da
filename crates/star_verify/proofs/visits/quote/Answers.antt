-- Three scans stand one in another at most.
use Rattle.std.proofs.Common.{◌≤◌, ◌^◌, arith, subst, sym}
use Rattle.star_verify.proofs.Common.{Parts, pow-le-pow_right, scan_depth}
use Rattle.star_verify.proofs.visits.quote.Goals as goal

pub turns_met-requires-clause-deep : goal.turns_met-requires-clause-deep
turns_met-requires-clause-deep c =
    let fewer : scan_depth c.parts.result.now.body ≤ 3 =
    subst (λ (parts : Parts). scan_depth parts.body ≤ 3) (sym c.parts.ensures.same)
    c.parts.ensures.limits.scans in
    let most : (2 ^ 32) ^ scan_depth c.parts.result.now.body ≤ (2 ^ 32) ^ 3 =
    pow-le-pow_right (omega arith) fewer in
    omega (arith, most)
