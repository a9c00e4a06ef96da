-- The words of the faults of a query's names.
use Rattle.std.specs.Prelude.{◌++◌, ℕ, List, codes, decimal}
use Rattle.star_plan.specs.declared.fault.PlanFault.{PlanFault, TheVariants.{OutOfMemory, UnknownName, NoFactTable, TableTwice, TableNotNamed, JoinMissing, JoinTwice, NotAKeyPair, WrongKind, NotGrouped, DuplicateGroup, UnknownOrderKey, DuplicateAlias, NoAggregate}}

-- the number and name of a fault, and the position of the name
unfoldable pub plan_fault_text : PlanFault → List ℕ
plan_fault_text OutOfMemory = codes "1 OutOfMemory"
plan_fault_text (UnknownName at) = codes "30 UnknownName at " ++ decimal at
plan_fault_text NoFactTable = codes "31 NoFactTable"
plan_fault_text (TableTwice at) = codes "32 TableTwice at " ++ decimal at
plan_fault_text (TableNotNamed at) = codes "33 TableNotNamed at " ++ decimal at
plan_fault_text (JoinMissing at) = codes "34 JoinMissing at " ++ decimal at
plan_fault_text (JoinTwice at) = codes "35 JoinTwice at " ++ decimal at
plan_fault_text (NotAKeyPair at) = codes "36 NotAKeyPair at " ++ decimal at
plan_fault_text (WrongKind at) = codes "37 WrongKind at " ++ decimal at
plan_fault_text (NotGrouped at) = codes "38 NotGrouped at " ++ decimal at
plan_fault_text (DuplicateGroup at) = codes "39 DuplicateGroup at " ++ decimal at
plan_fault_text (UnknownOrderKey at) = codes "40 UnknownOrderKey at " ++ decimal at
plan_fault_text (DuplicateAlias at) = codes "41 DuplicateAlias at " ++ decimal at
plan_fault_text NoAggregate = codes "42 NoAggregate"
