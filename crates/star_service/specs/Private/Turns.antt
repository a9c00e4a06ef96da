-- What a turn of a session does: it reads a statement and answers it.
use Rattle.std.specs.Prelude.{◌≡◌, ◌⊎◌, ℕ, List, Bool, true, false, Option, Result, Ok, Err}
use Rattle.star_engine.specs.{Answered.Change, Answered.IsUntouched, Loads.Loaded}
use Rattle.star_statements.specs.{Sources.IsPastCounting, Sources.IsStatementRead, declared.sources.ReadFault.TheVariants.Failed as ReadFailed, declared.sources.ReadFault.TheVariants.OutOfMemory as ReadMemory}
use Rattle.star_service.specs.{Lines.IsTextPrinted, Sessions.IsRound, Sessions.prompt_of, declared.sessions.Stop.Stop, declared.sessions.Stop.TheVariants.Unread, declared.sessions.Stop.TheVariants.Unwritten}

-- a statement was read, and answered
pub record IsStatementAnswered {S E : Type 0} (loaded : Loaded) (is_terminal : Bool)
    (old new : Option (List ℕ))
    (out : Change S) (err : Change E) (is_ended goes_on : Bool) : Type 0 where
  pub kept : List ℕ
  pub statement : List ℕ
  pub read : IsStatementRead old new kept is_ended statement
  pub round : IsRound loaded is_terminal statement out err goes_on

-- nothing but the prompt was printed
abbrev pub IsPrompted : {S E : Type 0} → (is_terminal : Bool) → Change S → Change E → Type 0
IsPrompted is_terminal out err = IsUntouched out × IsTextPrinted err (prompt_of is_terminal)

abbrev pub IsTurn : {S E : Type 0} → Loaded → (is_terminal : Bool) → (old new : Option (List ℕ))
    → (failed : Bool) → Change S → Change E → Result Bool Stop → Type 0
IsTurn loaded is_terminal old new failed out err (Ok is_ended) =
    IsStatementAnswered loaded is_terminal old new out err is_ended true
IsTurn loaded is_terminal old new failed out err (Err Unwritten) =
    (is_ended : Bool) × IsStatementAnswered loaded is_terminal old new out err is_ended false
IsTurn loaded is_terminal old new failed out err (Err (Unread ReadFailed)) =
    IsPrompted is_terminal out err
    × ((failed ≡ true) ⊎ ((read : List ℕ) × IsPastCounting old new read))
IsTurn loaded is_terminal old new failed out err (Err (Unread ReadMemory)) =
    IsPrompted is_terminal out err
