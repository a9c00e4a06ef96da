-- Why a put stops a run.
use Rattle.star_group.specs.declared.rows.PutFault.{PutFault}
use Rattle.star_program.specs.declared.fault.TrapKind.TheVariants.{Overflow}
use Rattle.star_trial.specs.{declared.fault.Stop.Stop, declared.fault.Stop.TheVariants.OutOfMemory, declared.fault.Stop.TheVariants.Trap}
use Rattle.star_group.specs.declared.rows.PutFault.TheVariants as put

abbrev pub stop_of_put : PutFault → Stop
stop_of_put put.OutOfMemory = OutOfMemory
stop_of_put put.Overflow = Trap Overflow
