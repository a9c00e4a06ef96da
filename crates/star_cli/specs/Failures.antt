-- What keeps a command from an answer, its line, and its exit status.
use Rattle.std.specs.{Prelude.{◌≡◌, ◌==◌, ◌++◌, ◌⊎◌, ℕ, List, Bool, true, false, Option, Some, Result, Ok, Err, IfSome, codes, decimal, ⊤}, Borrow.Bor}
use Rattle.star_engine.specs.{Answered.Change, Answered.IsUntouched, FaultTexts.engine_fault_text, declared.fault.EngineFault.EngineFault}
use Rattle.star_service.specs.{Lines.IsTextPrinted, Lines.fault_status, Names.printed_name, declared.reports.Halt.Halt}
use Rattle.star_words.specs.Faults.{words_fault_status, words_fault_text}
use Rattle.star_cli.specs.declared.failure.Failure.{TheVariants.{Words, File, Part, Unnamed, NamedTwice, OfFile, Unstored, Unwritten, OutOfMemory}, Failure}
use Rattle.star_engine.specs.declared.fault.EngineFault.TheVariants as engine
use Rattle.star_service.specs.declared.reports.Halt.TheVariants as halts

-- a file that can't be read as a query or a program: that too may be out of memory
abbrev pub failure_of_file : Bor (List ℕ) → EngineFault → Failure
failure_of_file path engine.OutOfMemory = OutOfMemory
failure_of_file path fault = OfFile path fault

-- what ends reports before the last
abbrev pub failure_of_halt : Halt → Failure
failure_of_halt halts.OutOfMemory = OutOfMemory
failure_of_halt (halts.Unstored name sent) = Unstored name sent
failure_of_halt (halts.Unwritten sent) = Unwritten sent

-- its line, if that is known: for arguments it may be the parser's
unfoldable pub failure_text : Failure → Option (List ℕ)
failure_text (Words fault) = words_fault_text fault
failure_text (File name) = Some (codes "file " ++ (printed_name name.now ++ codes "\n"))
failure_text (Part number) = Some (codes "file lineorder.tbl." ++ (decimal number ++ codes "\n"))
failure_text (Unnamed path) =
    Some (codes "error: no name for the report of " ++ (printed_name path.now ++ codes "\n"))
failure_text (NamedTwice name) =
    Some (codes "error: two reports are named " ++ (printed_name name.now ++ codes "\n"))
failure_text (OfFile path fault) =
    Some (printed_name path.now ++ (codes ": " ++ (engine_fault_text fault ++ codes "\n")))
failure_text (Unstored name sent) =
    Some (printed_name name.now ++ (codes ": write " ++ (decimal sent ++ codes "\n")))
failure_text (Unwritten sent) = Some (codes "write " ++ (decimal sent ++ codes "\n"))
failure_text OutOfMemory = Some (codes "memory\n")

-- ---- the exit status

abbrev pub status_of : Failure → ℕ
status_of (Words fault) = words_fault_status fault
status_of (File name) = 6
status_of (Part number) = 6
status_of (Unnamed path) = 2
status_of (NamedTwice name) = 2
status_of (OfFile path fault) = fault_status fault
status_of (Unstored name sent) = 6
status_of (Unwritten sent) = 6
status_of OutOfMemory = 7

-- ---- failures to read

-- the file at a path can't be read, or memory runs out
abbrev pub IsReadError : (path : List ℕ) → Failure → Type 0
IsReadError path (File name) = name.now ≡ path
IsReadError path OutOfMemory = ⊤
IsReadError path failure = ⊥

-- ---- printing it

-- its text: the line, if that is known
abbrev pub IsTextOf : Failure → List ℕ → Type 0
IsTextOf failure text = IfSome (failure_text failure) (λ line. text ≡ line)

-- a text is printed on standard output, or else on standard error; the other is as it was
abbrev pub IsPrintedOn : {S E : Type 0} → Bool → Change S → Change E → List ℕ → Type 0
IsPrintedOn true out err text = IsTextPrinted out text × IsUntouched err
IsPrintedOn false out err text = IsUntouched out × IsTextPrinted err text

-- a failure is printed, on standard output if it is none, and has its status; or out of memory
-- if there is no memory for its text
abbrev pub IsFailurePrinted : {S E : Type 0} → Failure → Change S → Change E → ℕ → Type 0
IsFailurePrinted failure out err status = (printed : Failure)
    × ((printed ≡ failure) ⊎ (printed ≡ OutOfMemory))
    × ((text : List ℕ) × IsTextOf printed text × IsPrintedOn (status == 0) out err text)
    × (status ≡ status_of printed)

-- ---- the end of reports

-- how reports end: 0 if all files were answered, or would be, 1 if one was refused; a failure that
-- ended them before the last is printed with its own
abbrev pub AreReportsEnded : {S E : Type 0} → Change S → Change E → Result Bool Halt → ℕ → Type 0
AreReportsEnded out err (Ok true) status = IsUntouched out × IsUntouched err × (status ≡ 0)
AreReportsEnded out err (Ok false) status = IsUntouched out × IsUntouched err × (status ≡ 1)
AreReportsEnded out err (Err halt) status = IsFailurePrinted (failure_of_halt halt) out err status
