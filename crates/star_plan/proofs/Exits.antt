-- What the exit of a `?` returns.
use Rattle.std.{proofs.Common.{◌≡◌, inr, sym, Option, Some, Result, Ok, Err, ap}, specs.Result.{IsErrAnd, result_err}}
use Rattle.star_plan.specs.{declared.fault.PlanFault.PlanFault, Private.Answers.Reports}

pub error_is : {T : Type 0} (r : Result T PlanFault) (e : PlanFault) → IsErrAnd r (λ y. y ≡ e)
    → result_err r ≡ Some e
error_is (Ok x) e is_e = absurd is_e
error_is (Err y) e is_e = ap Some is_e

pub reports : {T : Type 0} (r : Result T PlanFault) (fault : Option PlanFault)
    → result_err r ≡ fault → Reports fault r
reports (Ok x) fault e = sym e
reports (Err y) fault e = inr (sym e)
