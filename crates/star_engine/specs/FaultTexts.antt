-- The printed form of errors.
use Rattle.std.specs.Prelude.{◌++◌, ℕ, List, codes, decimal}
use Rattle.star_query.specs.FaultTexts.{query_fault_text}
use Rattle.star_plan.specs.FaultTexts.{plan_fault_text}
use Rattle.star_program.specs.Text.FaultTexts as program
use Rattle.star_catalogue.specs.FaultTexts as load
use Rattle.star_verify.specs.RefusalTexts.{refusal_text}
use Rattle.star_trial.specs.FaultTexts as trial
use Rattle.star_engine.specs.declared.fault.EngineFault.{EngineFault, TheVariants.{OutOfMemory, Query, Plan, Program, Load, Refused, Trial, Write}}

unfoldable pub engine_fault_text : EngineFault → List ℕ
engine_fault_text OutOfMemory = codes "memory"
engine_fault_text (Query fault) = codes "query " ++ query_fault_text fault
engine_fault_text (Plan fault) = codes "query " ++ plan_fault_text fault
engine_fault_text (Program fault) = codes "program " ++ program.text_fault_text fault
engine_fault_text (Load fault) = codes "load " ++ load.load_fault_text fault
engine_fault_text (Refused refusal) = refusal_text refusal
engine_fault_text (Trial fault) = trial.trial_fault_text fault
engine_fault_text (Write sent) = codes "write " ++ decimal sent
