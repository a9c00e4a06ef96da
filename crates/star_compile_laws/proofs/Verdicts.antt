-- What refuses a compiled program, if anything does.
use Rattle.std.{proofs.Common.{◌≡◌, ◌⊎◌, ◌+◌, inl, inr, ℕ, ◌≤◌, ◌<◌, Bool, true, false, Option, Some, None, refl, ap, subst, ◌∙◌, arith}, proofs.lemmas.Bool.{false_from_ne_true, le-leb, leb-true}, specs.Prelude.{nat_eq, nat_le, if◌then◌else◌}, specs.List.list_all, specs.Option.{option_map, option_or}, proofs.lemmas.Grind.common_steps}
use Rattle.star_schema.specs.{declared.table.TableId.TheVariants.Lineorder, declared.column.ColumnId.ColumnId, Columns.AreBoundsI64}
use Rattle.star_common.specs.First.{first_answer}
use Rattle.star_plan.specs.{Meaning.Plan, Sound.IsSoundPlan, Spelled.IsSpelledPlan, Fits.measure_fits, Fits.Fits}
use Rattle.star_interval.specs.Range.{Range, fits_i64}
use Rattle.star_program.specs.{declared.op.Op.TheVariants.{Assign, Keep, Put}, Code.{Code, Each, Stop, Then}, World.World, ShowLines.shown_fault}
use Rattle.star_safety.{specs.Admissible.{Refusal, TooCostly, Refused, BadShow, cost_refusal, first_refusal}, specs.declared.reason.Reason.Reason, specs.Standing.{instructions_of, reason_of}, proofs.Forward.first_standing}
use Rattle.star_compile_laws.{specs.Compiled.compiled, specs.Judged.IsOverflow, specs.Wide.{Computed, computed, first_wide, too_wide, turn_wide}, proofs.Accepts.{Judged, or_none_right, program_judged}, proofs.Suits.AreColumnsI64, proofs.Flat.quote_is, proofs.Programs.shows_what_is_there}

not_at_most : (n m : ℕ) → m < n → nat_le n m ≡ false
not_at_most n m h =
    false_from_ne_true (nat_le n m) (λ e. let p = leb-true n m e in absurd (omega arith))

-- a turn's number is too wide, or none is
only_wide : (bounds : ColumnId → Range) (known : ℕ → Computed) (at : ℕ) (code : Code)
    → (first_wide bounds known at code ≡ None)
    ⊎ IsOverflow (option_map Refused (first_wide bounds known at code))
only_wide bounds known at Stop = inl refl
only_wide bounds known at (Each t r body rest) = inl refl
only_wide bounds known at (Then (Keep r) rest) = only_wide bounds known (at + 1) rest
only_wide bounds known at (Then (Put g ks vs) rest) = only_wide bounds known (at + 1) rest
only_wide bounds known at (Then (Assign t o) rest) =
    let n = computed bounds known o in
    by (fits_i64 n.range) n
    (only_wide bounds (λ r. if nat_eq r t then n else known r) (at + 1) rest)
  where
    by : {later : Option (ℕ × Reason)} (b : Bool) (n : Computed)
        → (later ≡ None) ⊎ IsOverflow (option_map Refused later)
        → ((if b then later else Some (at, too_wide bounds n)) ≡ None)
        ⊎ IsOverflow (option_map Refused (if b then later else Some (at, too_wide bounds n)))
    by true n h = h
    by false n h = inr (at, n.range.low, n.range.high, _, refl)

module _ (w : World) (most : ℕ) (p : Plan) where
  abbrev rows : ℕ
  rows = w.size Lineorder

  abbrev reason : Option (ℕ × Reason)
  reason = first_answer (reason_of w (compiled p)) (instructions_of w (compiled p))

  by_rows : first_refusal w most (compiled p)
      ≡ option_or (cost_refusal rows (nat_le rows most))
      (option_or (option_map Refused reason) (option_map BadShow (shown_fault (compiled p))))
  by_rows = grind (arith, common_steps, quote_is)

  pub costly : most < rows → first_refusal w most (compiled p) ≡ Some (TooCostly rows)
  costly h = grind (arith, common_steps, by_rows, not_at_most)

  module _ (sound : IsSoundPlan p) where
    -- by the number of rows and the instructions alone
    told : first_refusal w most (compiled p)
        ≡ option_or (cost_refusal rows (nat_le rows most)) (option_map Refused reason)
    told = by_rows
        ∙ ap (λ o. option_or (cost_refusal rows (nat_le rows most))
        (option_or (option_map Refused reason) (option_map BadShow o)))
        (shows_what_is_there p sound)
        ∙ ap (option_or (cost_refusal rows (nat_le rows most)))
        (or_none_right (option_map Refused reason))

    within : rows ≤ most → first_refusal w most (compiled p) ≡ option_map Refused reason
    within h = grind (arith, common_steps, told, le-leb)

    abbrev nodes : Bool
    nodes = list_all (measure_fits w.bounds) p.measures

    judged : Judged (AreColumnsI64 w p) nodes reason (turn_wide w.bounds p)
    judged = subst (λ o. Judged (AreColumnsI64 w p) nodes o (turn_wide w.bounds p))
        (first_standing w (compiled p)) (program_judged w p sound)

    -- ---- what is accepted fits

    cheap : (b : Bool) (q : Option Refusal) → option_or (cost_refusal rows b) q ≡ None
        → (b ≡ true) × (q ≡ None)
    cheap true q e = (refl, e)
    cheap false q e = absurd (cc)

    not_refused : (o : Option (ℕ × Reason)) → option_map Refused o ≡ None → o ≡ None
    not_refused None e = refl
    not_refused (Some r) e = absurd (cc)

    pub accepted_fits : first_refusal w most (compiled p) ≡ None → Fits rows most w.bounds p
    accepted_fits e = grind (arith, common_steps, cheap, told, leb-true, judged, not_refused)

    -- ---- what fits is accepted

    pub fitting_accepted : AreBoundsI64 w.bounds → IsSpelledPlan p → Fits rows most w.bounds p
        → first_refusal w most (compiled p) ≡ None
    fitting_accepted bounds spelled fits = grind (arith, common_steps, within, judged)

    -- ---- and nothing else refuses it

    -- the first instruction that does is told
    pub first : rows ≤ most
        → first_refusal w most (compiled p) ≡ option_map Refused (turn_wide w.bounds p)
    first few = within few ∙ ap (option_map Refused) judged.first

    pub overflows : rows ≤ most → (Fits rows most w.bounds p → ⊥)
        → IsOverflow (first_refusal w most (compiled p))
    overflows few wide = grind (arith, common_steps, only_wide, accepted_fits, first)
