-- The printed form of refusals.
use Rattle.std.specs.Prelude.{◌++◌, ℕ, List, codes, decimal}
use Rattle.star_safety.specs.ReasonTexts.{bounds_text, reason_text}
use Rattle.star_verify.specs.{declared.refusal.Refusal.Refusal, declared.refusal.Refusal.TheVariants.OutOfMemory, declared.refusal.Refusal.TheVariants.TooCostly, declared.refusal.Refusal.TheVariants.Refused, declared.refusal.Refusal.TheVariants.BadShow}

unfoldable pub refusal_text : Refusal → List ℕ
refusal_text OutOfMemory = codes "memory"
refusal_text (TooCostly visits) = codes "refused 71 TooCostly visits " ++ decimal visits
refusal_text (Refused at reason) =
    codes "refused " ++ (reason_text reason
    ++ (codes " at " ++ (decimal at ++ bounds_text reason)))
refusal_text (BadShow index) = codes "refused 70 BadShow at " ++ decimal index
