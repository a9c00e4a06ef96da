-- The printed form of traps.
use Rattle.std.specs.Prelude.{ℕ, List, codes}
use Rattle.star_program.specs.declared.fault.{Fault.Fault, TrapKind.TrapKind, TrapKind.TheVariants.{Wrong, AbsentKey, Overflow}, Fault.TheVariants.{BadRegister, WrittenTwice, Unset, WrongKind, BadColumn, BadGroup, Misplaced}}

unfoldable pub wrong_text : Fault → List ℕ
wrong_text BadRegister = codes "BadRegister"
wrong_text WrittenTwice = codes "WrittenTwice"
wrong_text Unset = codes "Unset"
wrong_text WrongKind = codes "WrongKind"
wrong_text BadColumn = codes "BadColumn"
wrong_text BadGroup = codes "BadGroup"
wrong_text Misplaced = codes "Misplaced"

unfoldable pub kind_text : TrapKind → List ℕ
kind_text (Wrong fault) = wrong_text fault
kind_text AbsentKey = codes "AbsentKey"
kind_text Overflow = codes "Overflow"
