-- What keeps a command from its answer: the line of each failure, and its status. No other crate
-- may name them.
use Rattle.std.{proofs.Common.{ℕ, List, [], ◌∷◌, Some, refl}, specs.Borrow.Bor, specs.Fmt.digits, specs.Prelude.{◌++◌, codes}}
use Rattle.star_common.proofs.Tables.{Gives}
use Rattle.star_words.specs.Faults.{words_fault_text}
use Rattle.star_query.specs.{FaultTexts.query_fault_text, declared.fault.QueryFault.TheVariants.Unexpected}
use Rattle.star_engine.specs.{FaultTexts.engine_fault_text, declared.fault.EngineFault.TheVariants.Query}
use Rattle.star_cli.specs.{declared.failure.Failure.TheVariants.{Words, File, Part, Unnamed, NamedTwice, OfFile, Unstored, Unwritten, OutOfMemory}, Failures.{failure_of_file, failure_of_halt, failure_text, status_of}}
use Rattle.star_service.specs.Names.{printed_name}
use Rattle.star_words.specs.declared.fault.WordsFault.TheVariants as words
use Rattle.star_engine.specs.declared.fault.EngineFault.TheVariants as engine
use Rattle.star_service.specs.declared.reports.Halt.TheVariants as halts

-- of words that ask for nothing, of files that can't be read and of reports that end before the
-- last, want of memory as any other
module _ (name : Bor (List ℕ)) where
  lines : Gives failure_text (
      (Words words.NotText, Some (codes "error: a word is not UTF-8\n"))
      ∷ (Words words.OutOfMemory, Some (codes "memory\n"))
      ∷ (OutOfMemory, Some (codes "memory\n"))
      ∷ (File name, Some (codes "file " ++ (printed_name name.now ++ codes "\n")))
      ∷ (Part 2, Some (codes "file lineorder.tbl.2\n"))
      ∷ (
        Unnamed name,
        Some (codes "error: no name for the report of "
            ++ (printed_name name.now ++ codes "\n")),
      )
      ∷ (
        NamedTwice name,
        Some (codes "error: two reports are named "
            ++ (printed_name name.now ++ codes "\n")),
      )
      ∷ (
        OfFile name (Query (Unexpected 20)),
        Some (printed_name name.now ++ codes ": query 24 Unexpected at 20\n"),
      )
      ∷ (Unstored name 10, Some (printed_name name.now ++ codes ": write 10\n"))
      ∷ (Unwritten 7, Some (codes "write 7\n")) ∷ []) × Gives status_of (
      (Words words.NotText, 2) ∷ (Words words.OutOfMemory, 7) ∷ (Words words.EmptyFolder, 2)
      ∷ (Words words.NoCommand, 2)
      ∷ (File name, 6) ∷ (Part 2, 6) ∷ (OutOfMemory, 7) ∷ (Unnamed name, 2) ∷ (NamedTwice name, 2)
      ∷ (OfFile name (Query (Unexpected 20)), 4) ∷ (Unstored name 10, 6) ∷ (Unwritten 7, 6) ∷ [])
      × Gives (failure_of_file name) ((engine.OutOfMemory, OutOfMemory)
      ∷ (Query (Unexpected 20), OfFile name (Query (Unexpected 20))) ∷ [])
      × Gives failure_of_halt ((halts.OutOfMemory, OutOfMemory)
      ∷ (halts.Unstored name 10, Unstored name 10) ∷ (halts.Unwritten 7, Unwritten 7) ∷ [])
  unfolding failure_text words_fault_text engine_fault_text query_fault_text digits
  lines = (refl, refl, refl, refl)
