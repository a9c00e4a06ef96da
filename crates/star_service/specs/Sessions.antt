-- The output of a session: for each of its statements, and for all that a source has.
use Rattle.std.specs.{Prelude.{◌≡◌, ◌⊎◌, ◌++◌, ℕ, List, [], ◌∷◌, Bool, true, false, Option, Result, Ok, Err, codes, if◌then◌else◌}, Io.KnownBytes.{Consumes, IsAtEnd}}
use Rattle.star_engine.specs.{Queries.{IsExplained, IsQueryError, IsQueryQuoteOver, IsQueryRunErrorOver, IsQueryRunOver}, declared.fault.EngineFault.EngineFault, declared.fault.EngineFault.TheVariants.{Query, Write}, Answered.{Change, IsAnswered, IsUntouched}, Loads.Loaded, WithNotes.IsAnsweredWithNotes, QuoteTexts.{IsQuoteTextOver, IsQuoteErrorOver}}
use Rattle.star_statements.specs.{Questions.asked_by, Sources.IsPastCounting, Sources.IsStatementRead, Statements.statements_of, declared.questions.Question.Question, declared.sources.ReadFault.TheVariants.Failed as ReadFailed, declared.sources.ReadFault.TheVariants.OutOfMemory as ReadMemory}
use Rattle.star_service.specs.{Lines.IsFaultPrinted, Lines.IsTextPrinted, declared.sessions.Stop.Stop, declared.sessions.Stop.TheVariants.Unread, declared.sessions.Stop.TheVariants.Unwritten}
use Rattle.star_query.specs.declared.fault.QueryFault.TheVariants as parsing
use Rattle.star_statements.specs.declared.questions.Question.TheVariants as asked

-- ---- one statement

-- the report of a query over the loaded tables with its notes, as `query` gives them
abbrev pub IsReported : {S N : Type 0} → Loaded → List ℕ → Change S → Change N
    → Result (Unit {0}) EngineFault → Type 0
IsReported loaded query out notes answer =
    IsAnsweredWithNotes out notes (IsQueryQuoteOver loaded.database query)
    (IsQueryRunOver loaded.visits loaded.database query)
    (IsQueryRunErrorOver loaded.visits loaded.database query) answer

-- an empty line after it
abbrev pub IsLineEnded : {S : Type 0} → Change S → Result (Unit {0}) EngineFault → Type 0
IsLineEnded out answer = IsAnswered out (λ text. text ≡ codes "\n") (λ fault. ⊥) answer

-- the one and then the other, if the one isn't stopped
abbrev pub IsReportEnded : {S N : Type 0} → Loaded → List ℕ → Change S → Change N
    → Result (Unit {0}) EngineFault → Type 0
IsReportEnded {S} loaded query out notes answer =
    ((fault : EngineFault) × IsReported loaded query out notes (Err fault) × (answer ≡ Err fault))
    ⊎ ((reported : S) × IsReported loaded query (record out { new = reported }) notes (Ok tt)
    × IsLineEnded (record out { old = reported }) answer)

-- the answer to a statement: for the program of a query, or its quote, as `explain`
-- and `quote` answer
abbrev pub IsAnswerTo : {S N : Type 0} → Loaded → Question (List ℕ) → Change S → Change N
    → Result (Unit {0}) EngineFault → Type 0
IsAnswerTo loaded asked.Nothing out notes answer =
    IsUntouched out × IsUntouched notes × (answer ≡ Ok tt)
IsAnswerTo loaded asked.TooLong out notes answer =
    IsUntouched out × IsUntouched notes × (answer ≡ Err (Query parsing.TooLong))
IsAnswerTo loaded (asked.Query query) out notes answer =
    IsReportEnded loaded query out notes answer
IsAnswerTo loaded (asked.Explain query) out notes answer =
    IsAnswered out (IsExplained query) (IsQueryError query) answer × IsUntouched notes
IsAnswerTo loaded (asked.Quote query) out notes answer =
    IsAnswered out (IsQuoteTextOver loaded.database query) (IsQuoteErrorOver query) answer
    × IsUntouched notes

-- no session goes on after a write that failed
abbrev pub may_go_on : EngineFault → Bool
may_go_on (Write sent) = false
may_go_on fault = true

-- how a statement ends after its answer: a fault is printed, with some status
abbrev pub IsStepEnded : {E : Type 0} → Change E → Result (Unit {0}) EngineFault → Bool → Type 0
IsStepEnded err (Ok answer) goes_on = IsUntouched err × (goes_on ≡ true)
IsStepEnded err (Err fault) goes_on =
    ((status : ℕ) × IsFaultPrinted err fault status) × (goes_on ≡ may_go_on fault)

-- what both streams gain of what a statement asks for, and whether the session goes on
pub record IsStep {S E : Type 0} (loaded : Loaded) (question : Question (List ℕ)) (out : Change S)
    (err : Change E) (goes_on : Bool) : Type 0 where
  pub answer : Result (Unit {0}) EngineFault
  pub noted : E
  pub answered : IsAnswerTo loaded question out (record err { new = noted }) answer
  pub ended : IsStepEnded (record err { old = noted }) answer goes_on

-- ---- statements, one after another

-- the prompt before each statement, if a person types them
abbrev pub prompt_of : Bool → List ℕ
prompt_of is_terminal = if is_terminal then codes "star> " else []

-- the gain of both streams by a statement: the prompt, and the answer
pub record IsRound {S E : Type 0} (loaded : Loaded) (is_terminal : Bool) (statement : List ℕ)
    (out : Change S) (err : Change E) (goes_on : Bool) : Type 0 where
  pub prompted : E
  pub prompt : IsTextPrinted (record err { new = prompted }) (prompt_of is_terminal)
  pub step : IsStep loaded (asked_by statement) out (record err { old = prompted }) goes_on

-- their gain by some statements: by the first, and then by the others
abbrev pub AreRounds : {S E : Type 0} → Loaded → (is_terminal : Bool) → List (List ℕ) → Change S
    → Change E → Type 0
AreRounds loaded is_terminal [] out err = IsUntouched out × IsUntouched err
AreRounds {S} {E} loaded is_terminal (statement ∷ others) out err =
    (printed : S) × ((noted : E)
    × (IsRound loaded is_terminal statement (record out { new = printed }) (record err
    { new = noted }) true
    × AreRounds loaded is_terminal others (record out { old = printed }) (record err
    { old = noted })))

-- ---- all that a source has

-- statements were read, and answered, which are the first whatever follows them; a source has these
-- bytes left before and after them
pub record AreAnswered {S E : Type 0} (loaded : Loaded) (is_terminal : Bool) (old new : Option (List ℕ))
    (statements : List (List ℕ)) (out : Change S) (err : Change E) : Type 0 where
  pub text : List ℕ
  pub read : Consumes old new text
  pub first : (rest : List ℕ) → statements_of (text ++ rest) ≡ statements ++ statements_of rest
  pub rounds : AreRounds loaded is_terminal statements out err

-- all statements of a source were answered
pub record AreAllAnswered {S E : Type 0} (loaded : Loaded) (is_terminal : Bool) (old new : Option (List ℕ))
    (out : Change S) (err : Change E) : Type 0 where
  pub text : List ℕ
  pub read : Consumes old new text
  pub at_end : IsAtEnd new
  pub rounds : AreRounds loaded is_terminal (statements_of text) out err

-- a write failed while a statement was answered, after others
pub record IsUnwritten {S E : Type 0} (loaded : Loaded) (is_terminal : Bool) (old new : Option (List ℕ))
    (out : Change S) (err : Change E) : Type 0 where
  pub left : Option (List ℕ)
  pub statements : List (List ℕ)
  pub printed : S
  pub noted : E
  pub before : AreAnswered loaded is_terminal old left statements (record out { new = printed })
      (record err { new = noted })
  pub kept : List ℕ
  pub is_ended : Bool
  pub statement : List ℕ
  pub read : IsStatementRead left new kept is_ended statement
  pub round : IsRound loaded is_terminal statement (record out { old = printed })
      (record err { old = noted }) false

-- no statement was read after some that were answered, and nothing was printed but a prompt
pub record IsStatementUnread {S E : Type 0} (loaded : Loaded) (is_terminal : Bool) (old : Option (List ℕ))
    (out : Change S) (err : Change E) : Type 0 where
  pub left : Option (List ℕ)
  pub statements : List (List ℕ)
  pub noted : E
  pub before : AreAnswered loaded is_terminal old left statements out (record err { new = noted })
  pub is_prompted : Bool
  pub prompt : IsTextPrinted (record err { old = noted }) (prompt_of is_prompted)

-- the output of a session for all that a source has, if a source has these bytes left before and
-- after it, and whether a read of it has failed
abbrev pub AreStatementsRun : {S E : Type 0} → Loaded → (is_terminal : Bool)
    → (old new : Option (List ℕ))
    → (failed : Bool) → Change S → Change E → Result (Unit {0}) Stop → Type 0
AreStatementsRun loaded is_terminal old new failed out err (Ok answer) =
    AreAllAnswered loaded is_terminal old new out err
AreStatementsRun loaded is_terminal old new failed out err (Err Unwritten) =
    IsUnwritten loaded is_terminal old new out err
AreStatementsRun loaded is_terminal old new failed out err (Err (Unread ReadFailed)) =
    IsStatementUnread loaded is_terminal old out err
    × ((failed ≡ true) ⊎ ((read : List ℕ) × IsPastCounting old new read))
AreStatementsRun loaded is_terminal old new failed out err (Err (Unread ReadMemory)) =
    IsStatementUnread loaded is_terminal old out err

-- ---- the exit status

-- the text after the last statement, if a person types them
abbrev pub parting_of : Bool → List ℕ
parting_of is_terminal = if is_terminal then codes "\n" else []

-- how a session ends
abbrev pub IsSessionEnded : {E : Type 0} → (is_terminal : Bool) → Change E
    → Result (Unit {0}) Stop → ℕ → Type 0
IsSessionEnded is_terminal err (Ok answer) status =
    IsTextPrinted err (parting_of is_terminal) × (status ≡ 0)
IsSessionEnded is_terminal err (Err Unwritten) status = IsUntouched err × (status ≡ 6)
IsSessionEnded is_terminal err (Err (Unread ReadFailed)) status =
    IsTextPrinted err (codes "file standard input\n") × (status ≡ 6)
IsSessionEnded is_terminal err (Err (Unread ReadMemory)) status =
    IsTextPrinted err (codes "memory\n") × (status ≡ 7)

-- a session over all that a source has, and after it how it ends
pub record IsSession {S E : Type 0} (loaded : Loaded) (is_terminal : Bool) (old new : Option (List ℕ))
    (failed : Bool) (out : Change S) (err : Change E) (status : ℕ) : Type 0 where
  pub result : Result (Unit {0}) Stop
  pub noted : E
  pub statements_run : AreStatementsRun loaded is_terminal old new failed out (record err
      { new = noted }) result
  pub ended : IsSessionEnded is_terminal (record err { old = noted }) result status
