-- The printed form of text errors.
use Rattle.std.specs.Prelude.{◌++◌, ℕ, List, codes, decimal}
use Rattle.star_program.specs.declared.spelling.fault.TextFault.{TextFault, TheVariants.{OutOfMemory, BadHeader, BadLine, OpenScan, TooLarge}}

-- the number and name of an error, with its line
unfoldable pub text_fault_text : TextFault → List ℕ
text_fault_text OutOfMemory = codes "1 OutOfMemory"
text_fault_text BadHeader = codes "50 BadHeader"
text_fault_text (BadLine line) = codes "51 BadLine line " ++ decimal line
text_fault_text OpenScan = codes "52 OpenScan"
text_fault_text (TooLarge line) = codes "53 TooLarge line " ++ decimal line
