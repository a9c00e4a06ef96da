-- What printing a text comes to, and the line of want of memory.
use Rattle.std.{proofs.Common.{◌≡◌, ◌<◌, ◌↔◌, ℕ, List, [], ◌∷◌, false, true, length, take, inl, inr, refl, arith}, specs.Prelude.{Result, Ok, Err, IsOk, OnOk, OnErr, IfErr, codes}, specs.Io.KnownBytes.Appends}
use Rattle.star_common.specs.declared.delivery.WriteFault.{WriteFault}
use Rattle.star_engine.specs.{Answered.Change, FaultTexts.engine_fault_text}
use Rattle.star_service.specs.Lines.{IsTextPrinted, fault_line}
use Rattle.star_engine.specs.declared.fault.EngineFault.TheVariants as engine

-- by what the one call that writes ensures
pub printed : {S : Type 0} (sink : Change S) (text : List ℕ) (result : Result (Unit {0}) WriteFault)
    → (text ≡ [] → IsOk result × (sink.new ≡ sink.old))
    → (0 < length text → (IsOk result ↔ (sink.is_failed sink.new ≡ false)))
    → OnOk result (Appends (sink.contents sink.old) (sink.contents sink.new) text)
    → IfErr result (λ fault. (fault.sent < length text)
    × Appends (sink.contents sink.old) (sink.contents sink.new) (take fault.sent text))
    → OnErr result (sink.is_failed sink.new ≡ true) → IsTextPrinted sink text
printed sink [] result empty ok whole prefix failed = inl (refl, (empty refl).1)
printed sink (x ∷ xs) (Ok answer) empty ok whole prefix failed =
    inr (inl (record { gained = whole; not_failed = (ok (omega arith)).0 refl }))
printed sink (x ∷ xs) (Err fault) empty ok whole prefix failed =
    inr (inr (fault.sent, record { part = prefix.0; gained = prefix.1; failed = failed }))

-- as it is printed of the engine
pub memory_line : (text : List ℕ) → text ≡ codes "memory\n"
    → text ≡ fault_line engine.OutOfMemory
unfolding fault_line engine_fault_text
memory_line text e = e
