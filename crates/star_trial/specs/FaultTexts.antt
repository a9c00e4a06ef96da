-- The words of runs that don't come to their end.
use Rattle.std.specs.Prelude.{◌++◌, ℕ, List, codes, decimal}
use Rattle.star_program.specs.TrapTexts.{kind_text}
use Rattle.star_trial.specs.{declared.fault.TrialFault.TrialFault, declared.fault.TrialFault.TheVariants.OutOfMemory, declared.fault.TrialFault.TheVariants.Trap, declared.fault.TrialFault.TheVariants.Limit}

unfoldable pub trial_fault_text : TrialFault → List ℕ
trial_fault_text OutOfMemory = codes "memory"
trial_fault_text (Trap at kind) = codes "trap " ++ (kind_text kind ++ (codes " at " ++ decimal at))
trial_fault_text Limit = codes "limit"
