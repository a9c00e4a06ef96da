-- Each clause is a lemma, of runs where a turn may always begin, or as long as the bound allows it.
use Rattle.std.proofs.Common.{refl, arith}
use Rattle.star_safety.proofs.{Common.lt-ltb, Common.nat_lt, Common.true, Runs.ends, SumRanges.sums_fit, Always.accepted_throughout, Always.totals_lie, EachMoment.throughout_holds}
use Rattle.star_safety.proofs.law.admissible_programs_never_trap.Goals as goal

pub returns-clause-ends : goal.returns-clause-ends
returns-clause-ends c = λ w parts accepted. ends w parts
    (λ visits. true) accepted (λ k h. refl) _ (λ s tallied visits. visits)

pub returns-clause-never_limited : goal.returns-clause-never_limited
returns-clause-never_limited c = λ w parts most accepted enough. ends w parts
    (λ visits. nat_lt visits most) accepted
    (λ k h. lt-ltb k most (omega (arith, h, enough))) _ (λ s tallied visits. visits)

pub returns-clause-moments : goal.returns-clause-moments
returns-clause-moments c = λ w parts accepted.
    throughout_holds w parts (accepted_throughout w parts accepted)

pub returns-clause-sums : goal.returns-clause-sums
returns-clause-sums c = sums_fit

pub returns-clause-totals : goal.returns-clause-totals
returns-clause-totals c = λ w parts accepted. ends w parts
    (λ visits. true) accepted (λ k h. refl) _ (λ s tallied visits. totals_lie w parts s tallied)
