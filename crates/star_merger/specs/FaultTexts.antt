-- The printed form of faults of partials.
use Rattle.std.specs.Prelude.{◌++◌, ℕ, List, codes, decimal}
use Rattle.star_merger.specs.declared.fault.PartialFault.{PartialFault, TheVariants.{OutOfMemory, BadHeader, OtherQuery, OtherDimensions, BadLine, BadOrder, Overlap, Refused, Overflow}}

unfoldable pub partial_fault_text : PartialFault → List ℕ
partial_fault_text OutOfMemory = codes "memory"
partial_fault_text BadHeader = codes "1 BadHeader at 1"
partial_fault_text (OtherQuery line) = codes "2 OtherQuery at " ++ decimal line
partial_fault_text (OtherDimensions line) = codes "3 OtherDimensions at " ++ decimal line
partial_fault_text (BadLine line) = codes "4 BadLine at " ++ decimal line
partial_fault_text (BadOrder line) = codes "5 BadOrder at " ++ decimal line
partial_fault_text (Overlap line) = codes "6 Overlap at " ++ decimal line
partial_fault_text (Refused line) = codes "7 Refused at " ++ decimal line
partial_fault_text (Overflow line) = codes "8 Overflow at " ++ decimal line
