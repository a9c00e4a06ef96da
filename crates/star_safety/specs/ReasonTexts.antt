-- The printed form of a reason.
use Rattle.std.specs.Prelude.{◌++◌, ℕ, List, [], ◌∷◌, codes, decimal, flat_map}
use Rattle.star_interval.specs.Range.{text_of}
use Rattle.star_schema.specs.Schema.{column_name}
use Rattle.star_program.specs.{declared.fault.Fault.TheVariants.{BadRegister, WrittenTwice, Unset, WrongKind, BadColumn, BadGroup, Misplaced}, declared.fault.Fault.Fault, TrapTexts.wrong_text}
use Rattle.star_safety.specs.{declared.reason.Reached.Reached, declared.reason.Reason.Reason, declared.reason.Reason.TheVariants.Faulty, declared.reason.Reason.TheVariants.NotAForeignKey, declared.reason.Reason.TheVariants.OpenGroup, declared.reason.Reason.TheVariants.Overflow}

abbrev pub fault_number : Fault → ℕ
fault_number BadRegister = 60
fault_number WrittenTwice = 61
fault_number Unset = 62
fault_number WrongKind = 63
fault_number BadColumn = 64
fault_number BadGroup = 66
fault_number Misplaced = 68

-- the number and the name of a reason
unfoldable pub reason_text : Reason → List ℕ
reason_text (Faulty fault) = decimal (fault_number fault) ++ (codes " " ++ wrong_text fault)
reason_text NotAForeignKey = codes "65 NotAForeignKey"
reason_text OpenGroup = codes "67 OpenGroup"
reason_text (Overflow low high columns) = codes "69 Overflow"

-- a column and its bounds
abbrev pub reached_text : Reached → List ℕ
reached_text reached =
    column_name reached.column
    ++ (codes " " ++ text_of (record { low = reached.low; high = reached.high }))

abbrev pub others_text : List Reached → List ℕ
others_text others = flat_map (λ reached. codes ", " ++ reached_text reached) others

abbrev pub columns_text : List Reached → List ℕ
columns_text [] = []
columns_text (first ∷ others) = codes " from " ++ (reached_text first ++ others_text others)

abbrev pub bounds_text : Reason → List ℕ
bounds_text (Overflow low high columns) =
    codes ": " ++ (text_of (record { low = low; high = high }) ++ columns_text columns)
bounds_text _ = []
