-- The errors of the steps of a call.
use Rattle.star_query.specs.declared.fault.QueryFault.{QueryFault}
use Rattle.star_query.specs.declared.fault.QueryFault.TheVariants as query
use Rattle.star_plan.specs.declared.fault.PlanFault.{PlanFault}
use Rattle.star_plan.specs.declared.fault.PlanFault.TheVariants as plan
use Rattle.star_catalogue.specs.declared.fault.LoadFault.{LoadFault}
use Rattle.star_catalogue.specs.declared.fault.LoadFault.TheVariants as load
use Rattle.star_trial.specs.declared.fault.TrialFault.{TrialFault}
use Rattle.star_trial.specs.declared.fault.TrialFault.TheVariants as trial
use Rattle.star_program.specs.declared.spelling.fault.TextFault.{TextFault}
use Rattle.star_program.specs.declared.spelling.fault.TextFault.TheVariants as text
use Rattle.star_verify.specs.declared.refusal.Refusal.{Refusal}
use Rattle.star_verify.specs.declared.refusal.Refusal.TheVariants as refusal
use Rattle.star_engine.specs.declared.fault.EngineFault.{EngineFault, TheVariants.{Load, OutOfMemory, Plan, Program, Query, Refused, Trial}}

abbrev pub fault_of_query : QueryFault → EngineFault
fault_of_query query.OutOfMemory = OutOfMemory
fault_of_query fault = Query fault

abbrev pub fault_of_plan : PlanFault → EngineFault
fault_of_plan plan.OutOfMemory = OutOfMemory
fault_of_plan fault = Plan fault

abbrev pub fault_of_load : LoadFault → EngineFault
fault_of_load load.OutOfMemory = OutOfMemory
fault_of_load fault = Load fault

abbrev pub fault_of_text : TextFault → EngineFault
fault_of_text text.OutOfMemory = OutOfMemory
fault_of_text fault = Program fault

abbrev pub fault_of_refusal : Refusal → EngineFault
fault_of_refusal refusal.OutOfMemory = OutOfMemory
fault_of_refusal other = Refused other

abbrev pub fault_of_trial : TrialFault → EngineFault
fault_of_trial trial.OutOfMemory = OutOfMemory
fault_of_trial fault = Trial fault
