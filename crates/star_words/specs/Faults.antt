-- The errors of arguments that make no request, and the exit status.
use Rattle.std.specs.Prelude.{ℕ, List, Option, Some, None, codes}
use Rattle.clap.specs.{Values.kind_of, declared.error.Error.Error, declared.error.kind.ErrorKind.ErrorKind, declared.error.kind.ErrorKind.TheVariants.DisplayHelp, declared.error.kind.ErrorKind.TheVariants.DisplayVersion}
use Rattle.star_words.specs.declared.fault.WordsFault.{TheVariants.{Told, NotText, EmptyFolder, NoTarget, NoCommand, OutOfMemory}, WordsFault}
use Rattle.clap.specs.declared.error.kind.ErrorKind.TheVariants as kinds

-- an error of the parser of the words: it too may want memory
abbrev pub fault_of_kind : Error → ErrorKind → WordsFault
fault_of_kind error kinds.OutOfMemory = OutOfMemory
fault_of_kind error kind = Told error

abbrev pub fault_of_error : Error → WordsFault
fault_of_error error = fault_of_kind error (kind_of error)

-- its line, if that is known: the parser has its own
unfoldable pub words_fault_text : WordsFault → Option (List ℕ)
words_fault_text (Told error) = None
words_fault_text NotText = Some (codes "error: a word is not UTF-8\n")
words_fault_text EmptyFolder = Some (codes "error: the folder's name is empty\n")
words_fault_text NoTarget = Some (codes "error: several partials need --to TARGET\n")
words_fault_text NoCommand = Some (codes "error: the words are no command\n")
words_fault_text OutOfMemory = Some (codes "memory\n")

-- ---- the exit status

-- of words that the parser lets not pass: help and the version are no fault
abbrev pub words_status : ErrorKind → ℕ
words_status DisplayHelp = 0
words_status DisplayVersion = 0
words_status kind = 2

abbrev pub words_fault_status : WordsFault → ℕ
words_fault_status (Told error) = words_status (kind_of error)
words_fault_status NotText = 2
words_fault_status EmptyFolder = 2
words_fault_status NoTarget = 2
words_fault_status NoCommand = 2
words_fault_status OutOfMemory = 7
