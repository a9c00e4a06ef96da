-- What arguments ask for, one by one; that no folder's name is empty; and what is said of arguments
-- that ask for nothing.
use Rattle.std.{proofs.Common.{◌≡◌, [], ◌∷◌, Some, None, true, false, refl}, specs.Borrow.Bor, specs.Prelude.{List, codes}}
use Rattle.clap.specs.{Values.kind_of, declared.error.Error.Error, declared.error.kind.ErrorKind.TheVariants.DisplayHelp, declared.error.kind.ErrorKind.TheVariants.DisplayVersion, declared.error.kind.ErrorKind.TheVariants.UnknownArgument, declared.error.kind.ErrorKind.TheVariants.OutOfMemory as NoMemory}
use Rattle.star_common.proofs.Tables.{Gives}
use Rattle.star_schema.specs.{Most.most_rows, declared.limits.Limits.Limits}
use Rattle.star_words.specs.{Requests.{Asked, HasMostRows, IsWordsFault, Word, asked, bench, check, exec, explain, limit_of, may_ask_help, names_folders, partial, query, quote, reports, sample, session, trial}, Faults.{fault_of_kind, words_fault_status, words_fault_text, words_status}, declared.fault.WordsFault.TheVariants.{EmptyFolder, NoCommand, NoTarget, NotText, OutOfMemory}, declared.request.Request.TheVariants.Answer, declared.request.Task.TheVariants.Trial}

-- ---- the arguments of each command, in order

abbrev a : Word
a = codes "a"

abbrev b : Word
b = codes "b"

commands : Gives asked (
    ([], Some sample) ∷ (codes "check" ∷ a ∷ [], Some (check a))
    ∷ (codes "bench" ∷ a ∷ [], Some (bench a)) ∷ (codes "session" ∷ a ∷ [], Some (session a))
    ∷ (codes "explain" ∷ a ∷ [], Some (explain a))
    ∷ (codes "query" ∷ a ∷ b ∷ [], Some (query a b)) ∷ (codes "exec" ∷ a ∷ b ∷ [], Some (exec a b))
    ∷ (codes "quote" ∷ a ∷ b ∷ [], Some (quote a b))
    ∷ (codes "trial" ∷ a ∷ b ∷ codes "7" ∷ [], Some (trial a b 7))
    ∷ (codes "reports" ∷ a ∷ b ∷ a ∷ b ∷ [], Some (reports a b (a ∷ b ∷ []) false)) ∷ [])
unfolding limit_of
commands = refl

-- a hyphen and what follows `--` are operands; `--quote` is an option of `reports`, once
hyphens : Gives asked (
    (codes "check" ∷ codes "-" ∷ [], Some (check (codes "-")))
    ∷ (codes "check" ∷ codes "--" ∷ codes "-x" ∷ [], Some (check (codes "-x")))
    ∷ (codes "query" ∷ a ∷ codes "--" ∷ codes "--" ∷ [], Some (query a (codes "--")))
    ∷ (codes "reports" ∷ a ∷ codes "--quote" ∷ b ∷ a ∷ [], Some (reports a b (a ∷ []) true))
    ∷ (codes "check" ∷ a ∷ codes "--quote" ∷ [], None)
    ∷ (codes "reports" ∷ a ∷ b ∷ a ∷ codes "--quote" ∷ codes "--quote" ∷ [], None)
    ∷ (codes "check" ∷ codes "-x" ∷ [], None) ∷ [])
hyphens = refl

-- a part is from 0 to 1,000; the value of `--to` may come anywhere; several parts need it
partials : Gives asked (
    (codes "partial" ∷ a ∷ b ∷ codes "7" ∷ [], Some (partial a b (7 ∷ []) None))
    ∷ (
      codes "partial" ∷ a ∷ b ∷ codes "3" ∷ codes "0" ∷ codes "--to" ∷ a ∷ [],
      Some (partial a b (3 ∷ 0 ∷ []) (Some a)),
    )
    ∷ (
      codes "partial" ∷ codes "--to" ∷ a ∷ b ∷ a ∷ codes "1000" ∷ [],
      Some (partial b a (1000 ∷ []) (Some a)),
    )
    ∷ (codes "partial" ∷ a ∷ b ∷ codes "1" ∷ codes "2" ∷ [], None)
    ∷ (codes "partial" ∷ a ∷ b ∷ codes "1001" ∷ codes "--to" ∷ a ∷ [], None)
    ∷ (codes "partial" ∷ a ∷ b ∷ codes "--to" ∷ a ∷ [], None)
    ∷ (codes "query" ∷ a ∷ b ∷ codes "--to" ∷ a ∷ [], None) ∷ [])
unfolding limit_of
partials = refl

-- no command has this name, or an argument is missing, or one too many
no_commands : Gives asked (
    (codes "no" ∷ a ∷ [], None) ∷ (codes "check" ∷ [], None) ∷ (codes "check" ∷ a ∷ b ∷ [], None)
    ∷ (codes "query" ∷ a ∷ [], None) ∷ (codes "reports" ∷ a ∷ b ∷ [], None)
    ∷ (codes "trial" ∷ a ∷ b ∷ [], None) ∷ (codes "tables" ∷ [], None) ∷ [])
no_commands = refl

limits : Gives limit_of (
    (codes "0", Some 0) ∷ (codes "+010", Some 10)
    ∷ (codes "1000000000000000", Some 1000000000000000) ∷ (codes "1000000000000001", None)
    ∷ (codes "-1", None) ∷ (codes "x", None) ∷ (codes "", None) ∷ (codes "+", None) ∷ [])
unfolding limit_of
limits = refl

folders : Gives names_folders ((sample, true) ∷ (explain [], true) ∷ (check a, true)
    ∷ (check [], false) ∷ (session [], false) ∷ (query a [], true) ∷ (query [] a, false)
    ∷ (trial [] a 1, false) ∷ (partial a b [] None, true) ∷ (partial [] b [] None, false)
    ∷ (partial a b [] (Some []), false) ∷ (reports a b [] false, true)
    ∷ (reports [] b [] false, false) ∷ (reports a [] [] true, false) ∷ [])
folders = refl

helps : Gives may_ask_help (
    (codes "help" ∷ [], true) ∷ (codes "tables" ∷ [], true) ∷ (codes "faults" ∷ [], true) ∷ (codes "--version" ∷ [], true)
    ∷ (codes "check" ∷ codes "-h" ∷ [], true) ∷ (codes "check" ∷ [], false)
    ∷ (codes "check" ∷ codes "--" ∷ codes "-h" ∷ [], false) ∷ ([], false) ∷ [])
helps = refl

module _ (words : List Word) where
  faults : (IsWordsFault words NotText ≡ ⊥) × (IsWordsFault words OutOfMemory ≡ Unit {0})
      × (IsWordsFault words EmptyFolder
      ≡ ((it : Asked) × (asked words ≡ Some it) × (names_folders it ≡ false)))
      × (IsWordsFault words NoCommand
      ≡ (words_fault_status NoCommand ≡ 0 → may_ask_help words ≡ true))
  faults = (refl, refl, refl, refl)

-- no argument bounds the rows of a trial's tables
module _ (folder file : Bor Word) (limits : Limits) where
  rows : HasMostRows (Answer (Trial folder file limits)) ≡ (limits.rows ≡ most_rows)
  rows = refl

-- ---- lines and statuses; what the parser of words lets not pass has its own text, and its status
-- by its kind, and want of memory is as any other

lines : Gives words_fault_text (
    (NotText, Some (codes "error: a word is not UTF-8\n"))
    ∷ (EmptyFolder, Some (codes "error: the folder's name is empty\n"))
    ∷ (NoTarget, Some (codes "error: several partials need --to TARGET\n"))
    ∷ (NoCommand, Some (codes "error: the words are no command\n"))
    ∷ (OutOfMemory, Some (codes "memory\n")) ∷ [])
    × Gives words_fault_status
    ((NotText, 2) ∷ (EmptyFolder, 2) ∷ (NoTarget, 2) ∷ (NoCommand, 2) ∷ (OutOfMemory, 7) ∷ [])
    × Gives words_status ((DisplayHelp, 0) ∷ (DisplayVersion, 0) ∷ (UnknownArgument, 2) ∷ [])
unfolding words_fault_text
lines = (refl, refl, refl)

of_the_parser : (error : Error) → Gives (λ kind. words_fault_text (fault_of_kind error kind))
    ((UnknownArgument, None) ∷ (NoMemory, Some (codes "memory\n")) ∷ [])
    × Gives (λ kind. words_fault_status (fault_of_kind error kind))
    ((UnknownArgument, words_status (kind_of error)) ∷ (NoMemory, 7) ∷ [])
unfolding words_fault_text
of_the_parser error = (refl, refl)
