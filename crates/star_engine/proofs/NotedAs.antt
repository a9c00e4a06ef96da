-- What is answered with notes of one thing is answered of another, where all that is due of the one
-- is due of the other.
use Rattle.std.{proofs.Common.{ℕ, List, inl, inr}, specs.Prelude.{Result, Ok, Err}}
use Rattle.star_engine.specs.{WithNotes.{AfterTheReport, BeforeTheReport, InTheReport, IsAnsweredWithNotes, IsBroken, RunText}, declared.fault.EngineFault.EngineFault, declared.fault.EngineFault.TheVariants.{OutOfMemory, Refused, Write}, Answered.Change}

broken_as : {S N : Type 0} (out : Change S) (notes : Change N) (Quote OtherQuote : List ℕ → Type 0)
    (Run OtherRun : RunText → Type 0) (sent : ℕ) → ((note : List ℕ) → Quote note → OtherQuote note)
    → ((run : RunText) → Run run → OtherRun run)
    → IsBroken out notes Quote Run sent → IsBroken out notes OtherQuote OtherRun sent
broken_as out notes Quote OtherQuote Run OtherRun sent quote tell broken =
    elim broken [
      | BeforeTheReport quoted is noted part same none ↦
          BeforeTheReport quoted (quote quoted is) noted part same none
      | InTheReport run is noted part ↦ InTheReport run (tell run is) noted part
      | AfterTheReport run is noted behind part gained all ↦
          AfterTheReport run (tell run is) noted behind part gained all
    ]

pub noted_as : {S N : Type 0} (out : Change S) (notes : Change N)
    (Quote OtherQuote : List ℕ → Type 0) (Run OtherRun : RunText → Type 0)
    (Due OtherDue : EngineFault → Type 0) (result : Result (Unit {0}) EngineFault)
    → ((note : List ℕ) → Quote note → OtherQuote note) → ((run : RunText) → Run run → OtherRun run)
    → ((fault : EngineFault) → Due fault → OtherDue fault)
    → IsAnsweredWithNotes out notes Quote Run Due result
    → IsAnsweredWithNotes out notes OtherQuote OtherRun OtherDue result
noted_as out notes Quote OtherQuote Run OtherRun Due OtherDue (Ok answer) quote tell due noted =
    (noted.0, tell noted.0 noted.1, noted.2, noted.3)
noted_as out notes Quote OtherQuote Run OtherRun Due OtherDue (Err OutOfMemory) quote tell due
    noted = (noted.0, elim noted.1 [ inl same ↦ inl same | inr q ↦ inr (q.0, quote q.0 q.1, q.2) ])
noted_as out notes Quote OtherQuote Run OtherRun Due OtherDue (Err (Write sent)) quote tell due
    noted =
    broken_as out notes Quote OtherQuote Run OtherRun sent quote tell noted
noted_as out notes Quote OtherQuote Run OtherRun Due OtherDue (Err (Refused refusal)) quote tell
    due noted =
    (due (Refused refusal) noted.0, noted.1, (noted.2.0, quote noted.2.0 noted.2.1, noted.2.2))
noted_as out notes Quote OtherQuote Run OtherRun Due OtherDue (Err fault) quote tell due noted =
    (due _ noted.0, noted.1, noted.2)
