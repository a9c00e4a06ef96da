-- What a call that runs a program answers, by its steps.
use Rattle.std.{proofs.Common.{◌≡◌, ◌+◌, ◌++◌, ℕ, List, Option, Bool, arith, inl, inr, length, refl, subst, sym, take}, proofs.KnownBytes.Appends-trans, proofs.Math.Seq.take-append-add, proofs.lemmas.List.length-append, specs.Prelude.{Result, Ok, Err}}
use Rattle.star_verify.specs.declared.refusal.Refusal.{Refusal}
use Rattle.star_engine.specs.{Answered.{Change, HasGained, HasGainedPart, IsUntouched, IsWritten, OrMemory, change}, WithNotes.{AfterTheReport, BeforeTheReport, InTheReport, IsAnsweredWithNotes, RunText}, declared.fault.EngineFault.EngineFault, declared.fault.EngineFault.TheVariants.{OutOfMemory, Refused, Write}, Private.Steps.{AreBothWritten, IsPart}}

-- a fault before anything is written, which is no refusal
pub noted_stopped : {S N : Type 0} (out : Change S) (notes : Change N) (IsQuote : List ℕ → Type 0)
    (IsRun : RunText → Type 0) (IsBefore IsDue : EngineFault → Type 0) (fault : EngineFault)
    → IsUntouched out → IsUntouched notes → ((refusal : Refusal) → ¬ IsBefore (Refused refusal))
    → ((f : EngineFault) → IsBefore f → IsDue f) → OrMemory IsBefore fault
    → IsAnsweredWithNotes out notes IsQuote IsRun IsDue (Err fault)
noted_stopped out notes IsQuote IsRun IsBefore IsDue OutOfMemory same still never on is =
    (same, inl still)
noted_stopped out notes IsQuote IsRun IsBefore IsDue (Write sent) same still never on is =
    absurd is
noted_stopped out notes IsQuote IsRun IsBefore IsDue (Refused refusal) same still never on is =
    absurd (never refusal is)
noted_stopped out notes IsQuote IsRun IsBefore IsDue fault same still never on is =
    (on fault is, same, still)

-- the report was not sent whole, and no note is written after it
pub report_broken : {S N : Type 0} (out : Change S) (notes : Change N) (text report done : List ℕ)
    (fault : EngineFault) → text ≡ report → IsWritten out text (Err fault) → IsUntouched notes
    → AreBothWritten out notes report done (Err fault)
report_broken out notes text report done (Write sent) is part same =
    inl (subst (λ t. HasGainedPart out t sent) is part, same)
report_broken out notes text report done _ is part same = absurd part

-- the note of the quote was not written whole
pub note_broken : {S N : Type 0} (out : Change S) (notes : Change N) (IsQuote : List ℕ → Type 0)
    (IsRun : RunText → Type 0) (IsDue : EngineFault → Type 0) (note : List ℕ)
    (result : Result (Unit {0}) EngineFault) → result ≡ Err (Write 0) → IsQuote note
    → IsPart notes note → IsUntouched out → IsAnsweredWithNotes out notes IsQuote IsRun IsDue result
note_broken out notes IsQuote IsRun IsDue note result is quote part same =
    rw is (BeforeTheReport note quote part.0 part.1 same refl)

-- a note after another
gained_both : {N : Type 0} (contents : N → Option (List ℕ)) (is_failed : N → Bool) (old mid new : N)
    (first second : List ℕ) → HasGained (change contents is_failed old mid) first
    → HasGained (change contents is_failed mid new) second
    → HasGained (change contents is_failed old new) (first ++ second)
gained_both contents is_failed old mid new first second h k = record {
  gained = Appends-trans (contents old) (contents mid) (contents new) first second h.gained
      k.gained;
  not_failed = k.not_failed;
}

gained_part : {N : Type 0} (contents : N → Option (List ℕ)) (is_failed : N → Bool) (old mid new : N)
    (first second : List ℕ) (noted : ℕ) → HasGained (change contents is_failed old mid) first
    → HasGainedPart (change contents is_failed mid new) second noted
    → HasGainedPart (change contents is_failed old new) (first ++ second) (length first + noted)
gained_part contents is_failed old mid new first second noted h k = record {
  part = omega (arith, length-append first second, k.part);
  gained = rw (take-append-add first second noted)
      (Appends-trans (contents old) (contents mid) (contents new) first (take noted second) h.gained
      k.gained);
  failed = k.failed;
}

-- the report and the last note are written after the note of the quote
pub delivered : {S N : Type 0} (out : Change S) (contents : N → Option (List ℕ))
    (is_failed : N → Bool) (old mid new : N) (IsQuote : List ℕ → Type 0) (IsRun : RunText → Type 0)
    (IsDue : EngineFault → Type 0) (run : RunText) (result : Result (Unit {0}) EngineFault)
    → IsQuote run.quoted → IsRun run → HasGained (change contents is_failed old mid) run.quoted
    → AreBothWritten out (change contents is_failed mid new) run.report run.done result
    → IsAnsweredWithNotes out (change contents is_failed old new) IsQuote IsRun IsDue result
delivered out contents is_failed old mid new IsQuote IsRun IsDue run (Ok answer) quote told
    noted sent = (
      run,
      told,
      sent.0,
      gained_both contents is_failed old mid new run.quoted run.done
          noted sent.1,
    )
delivered out contents is_failed old mid new IsQuote IsRun IsDue run (Err OutOfMemory) quote
    told noted sent = (
      sent.0,
      inr (
        run.quoted,
        quote,
        subst (λ n. HasGained (change contents is_failed old n) run.quoted) (sym sent.1) noted,
      ),
    )
delivered out contents is_failed old mid new IsQuote IsRun IsDue run (Err (Write count)) quote
    told noted sent =
    elim sent [
      | inl p ↦ InTheReport run told
          (subst (λ n. HasGained (change contents is_failed old n) run.quoted) (sym p.1) noted)
          p.0
      | inr p ↦ AfterTheReport run told (length run.quoted + p.2.0) (omega arith)
          (gained_part contents is_failed old mid new run.quoted run.done p.2.0 noted p.2.1)
          p.0 p.1
    ]
delivered out contents is_failed old mid new IsQuote IsRun IsDue run (Err _) quote told noted
    sent = absurd sent
