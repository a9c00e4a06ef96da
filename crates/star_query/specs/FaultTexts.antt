-- The words of the faults of a query's text.
use Rattle.std.specs.Prelude.{◌++◌, ℕ, List, codes, decimal}
use Rattle.star_query.specs.declared.fault.QueryFault.{QueryFault, TheVariants.{OutOfMemory, TooLong, BadCharacter, BadNumber, OpenText, Unexpected, TooDeep, TooMany}}

-- the number and name of a fault, and its position
unfoldable pub query_fault_text : QueryFault → List ℕ
query_fault_text OutOfMemory = codes "1 OutOfMemory"
query_fault_text TooLong = codes "20 TooLong"
query_fault_text (BadCharacter at) = codes "21 BadCharacter at " ++ decimal at
query_fault_text (BadNumber at) = codes "22 BadNumber at " ++ decimal at
query_fault_text (OpenText at) = codes "23 OpenText at " ++ decimal at
query_fault_text (Unexpected at) = codes "24 Unexpected at " ++ decimal at
query_fault_text TooDeep = codes "25 TooDeep"
query_fault_text TooMany = codes "26 TooMany"
