-- Registers in a list.
use Rattle.std.{proofs.Common.{◌≡◌, ℕ, ◌<◌, List, length, Option, Some, None, sym, ap, ◌∙◌, ⊎_elim, get_or, subst}, proofs.lemmas.Bool.Decides.eqb_tells, proofs.lemmas.List.{get_or-set_same, get_or-set_other}, specs.Prelude.{slice_set, if◌then◌else◌}}
use Rattle.star_schema.specs.Database.{Database}
use Rattle.star_program.specs.{declared.value.Value.Value, Values.Registers, Values.no_registers, Values.with_entry}
use Rattle.star_trial.specs.Private.Views.{registers_view}
use Rattle.star_outcome.specs.Sound.{AreSound}

held_set_at : (xs : List (Option Value)) (t : ℕ) (v : Value) (r : ℕ) → t < length xs
    → registers_view (slice_set xs t (Some v)) r ≡ with_entry (registers_view xs) t v r
held_set_at xs t v r h = ⊎_elim
    (λ p. ap (λ q. get_or (slice_set xs t (Some v)) q None) p.1
    ∙ get_or-set_same xs t (Some v) None h
    ∙ ap (λ b. if b then Some v else registers_view xs r) (sym p.0))
    (λ p. get_or-set_other xs t r (Some v) None p.1
    ∙ ap (λ b. if b then Some v else registers_view xs r) (sym p.0)) (eqb_tells r t)

-- a register that is written
pub held_set : (xs : List (Option Value)) (t : ℕ) (v : Value) → t < length xs
    → registers_view (slice_set xs t (Some v)) ≡ with_entry (registers_view xs) t v
held_set xs t v h = λ i r. held_set_at xs t v r h i

-- ---- registers in which nothing stands

pub sound_nothing : (database : Database) (registers : Registers) → registers ≡ no_registers
    → AreSound database registers
sound_nothing database registers e = subst (AreSound database) (sym e) (record { each = λ r. tt })
