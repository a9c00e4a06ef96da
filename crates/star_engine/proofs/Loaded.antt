-- What is answered over the rows of texts that can be loaded is answered over the texts.
use Rattle.std.{proofs.Common.{◌≡◌, ℕ, List}, specs.Prelude.{Result, Ok, Err, IfErr, OnOk}}
use Rattle.star_schema.specs.{Database.Database, Database.TableTexts, Loadable.IsLoadable, Loadable.database_of}
use Rattle.star_engine.{specs.Answered.{Change, HasWritten, IsAnswered, IsBrokenOff, IsRefused, IsUntouched}, specs.declared.fault.EngineFault.EngineFault, specs.declared.fault.EngineFault.TheVariants.{OutOfMemory, Write}, specs.Loads.HoldsOfRows, specs.WithNotes.{IsAnsweredWithNotes, RunText}, proofs.ByClauses.by_clauses, proofs.NotedAs.noted_as}

-- what is answered of one text is answered of another, where all that is due of the one is due of
-- the other
pub answered_as : {S A : Type 0} (sink : Change S) (IsText OtherText : List ℕ → Type 0)
    (IsDue OtherDue : EngineFault → Type 0) (result : Result A EngineFault)
    → ((text : List ℕ) → IsText text → OtherText text)
    → ((fault : EngineFault) → IsDue fault → OtherDue fault)
    → IsAnswered sink IsText IsDue result → IsAnswered sink OtherText OtherDue result
answered_as sink IsText OtherText IsDue OtherDue (Ok answer) write due is =
    (is.0, write is.0 is.1, is.2)
answered_as sink IsText OtherText IsDue OtherDue (Err OutOfMemory) write due is = is
answered_as sink IsText OtherText IsDue OtherDue (Err (Write sent)) write due is =
    (is.0, write is.0 is.1, is.2)
answered_as sink IsText OtherText IsDue OtherDue (Err fault) write due is = (due _ is.0, is.1)

-- a text that is due over the rows of texts that can be loaded
abbrev pub Over : ℕ → TableTexts → (Database → List ℕ → Type 0) → List ℕ → Type 0
Over rows texts IsText text = HoldsOfRows rows texts (λ database. IsText database text)

module _ (rows : ℕ) (texts : TableTexts) (loadable : IsLoadable rows texts) where
  pub of_rows : (Holds : Database → Type 0) → Holds (database_of texts)
      → HoldsOfRows rows texts Holds
  of_rows Holds holds = record { loadable = loadable; holds = holds }

  module _ {S A : Type 0} (sink : Change S) (IsText : Database → List ℕ → Type 0)
      (IsDue : Database → EngineFault → Type 0) (OtherDue : EngineFault → Type 0)
      (result : Result A EngineFault)
      (due : (fault : EngineFault) → IsLoadable rows texts → IsDue (database_of texts) fault
      → OtherDue fault)
      (is : IsAnswered sink (IsText (database_of texts)) (IsDue (database_of texts)) result) where
    pub answered_over : IsAnswered sink (Over rows texts IsText) OtherDue result
    answered_over =
        answered_as sink (IsText (database_of texts)) (Over rows texts IsText)
        (IsDue (database_of texts)) OtherDue result
        (λ text. of_rows (λ database. IsText database text)) (λ fault. due fault loadable) is

    -- clause by clause
    pub over_by_clauses : OnOk result (HasWritten sink (Over rows texts IsText))
        × IfErr result (IsBrokenOff sink (Over rows texts IsText))
        × IfErr result (IsRefused sink OtherDue) × (result ≡ Err OutOfMemory → IsUntouched sink)
    over_by_clauses = by_clauses sink (Over rows texts IsText) OtherDue result answered_over

  pub noted_over : {S N : Type 0} (out : Change S) (notes : Change N)
      (IsQuote : Database → List ℕ → Type 0) (IsRun : Database → RunText → Type 0)
      (IsDue : Database → EngineFault → Type 0) (OtherDue : EngineFault → Type 0)
      (result : Result (Unit {0}) EngineFault)
      → ((fault : EngineFault) → IsLoadable rows texts → IsDue (database_of texts) fault
      → OtherDue fault)
      → IsAnsweredWithNotes out notes (IsQuote (database_of texts)) (IsRun (database_of texts))
      (IsDue (database_of texts)) result → IsAnsweredWithNotes out notes (Over rows texts IsQuote)
      (λ run. HoldsOfRows rows texts (λ database. IsRun database run)) OtherDue result
  noted_over out notes IsQuote IsRun IsDue OtherDue result due is =
      noted_as out notes (IsQuote (database_of texts)) (Over rows texts IsQuote)
      (IsRun (database_of texts)) _ (IsDue (database_of texts)) OtherDue result
      (λ note. of_rows (λ database. IsQuote database note))
      (λ run. of_rows (λ database. IsRun database run)) (λ fault. due fault loadable) is
