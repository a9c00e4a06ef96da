-- The parser refuses no line of a text exactly where it spells a program within the limits.
use Rattle.std.proofs.{Common.{◌≡◌, ◌↔◌, ◌+◌, ◌∙◌, ◌∷◌, ◌++◌, [], ℕ, false, List, Option, Some, None, Result, Ok, Err, append-nil, map, refl, sym, inl, inr, arith}, lemmas.Bool.cases_Bool}
use Rattle.star_program.{specs.Private.Drafts.{IsAt, told}, specs.Limits.IsWithinLimits, specs.Text.Lines.is_blank_line, specs.Text.Said.{said, said_in}, specs.Text.Spelling.Spells, specs.Text.FirstFaults.{FirstTextFault, advance, end_in, lines_fault, program_text_fault, reached_by}, specs.declared.program.Parts.Parts, specs.declared.spelling.draft.Draft.Draft, specs.declared.spelling.fault.TextFault.TextFault, specs.declared.spelling.text_state.TextState.TextState, specs.declared.spelling.statement.Statement.Statement, proofs.Text.Takes.takes, proofs.Text.FaultLemmas.{ended, refused, text_fault_is}, proofs.Text.NoFault.no_fault, proofs.Text.PassedLines.{blank_passed, end_opened, end_spelled, end_within, line_passed, nothing_at_start, nothing_told, opens_report}}

reached_says : (p : TextState) (line : ℕ) (o : Option Statement) (q : TextState)
    → reached_by p line o ≡ Ok q → (s : Statement) × (o ≡ Some s)
reached_says p line None q h = let bad : ⊥ = cc in absurd bad
reached_says p line (Some s) q h = (s, refl)

-- a line after which the text goes on says a statement
advance_says : (p : TextState) (line : ℕ) (text : List ℕ) (q : TextState)
    → advance p line text ≡ Ok q → (s : Statement) × (said text ≡ Some s)
unfolding advance
advance_says p line text q h = grind (arith, cases_Bool, opens_report, reached_says)

faultless_advances : (p : TextState) (line : ℕ) (text : List ℕ) (texts : List (List ℕ))
    → is_blank_line text ≡ false → lines_fault p line (text ∷ texts) ≡ None
    → (q : TextState) × (advance p line text ≡ Ok q)
faultless_advances p line text texts filled h = settled (advance p line text) refl
  where
    settled : (r : Result TextState TextFault) → advance p line text ≡ r
        → (q : TextState) × (advance p line text ≡ Ok q)
    settled (Ok q) is = (q, is)
    settled (Err f) is = let first = refused p line text texts f filled is in let bad : ⊥ = cc in
        absurd bad

-- the texts from a state on end at another, and the draft there says them all
abbrev Finishes : TextState → Draft → List (List ℕ) → Type 0
Finishes p d texts =
    (q : TextState) × (e : Draft) × (n : ℕ) × IsAt q e
    × (map Some (told p.stage d) ++ said_in texts ≡ map Some (told q.stage e))
    × (end_in q.stage q.depth n ≡ None)

finishes : (texts : List (List ℕ)) (p : TextState) (d : Draft) (line : ℕ) → IsAt p d
    → lines_fault p line texts ≡ None → Finishes p d texts
finishes [] p d line at h =
    (p, d, line, at, append-nil (map Some (told p.stage d)), sym (ended p line) ∙ h)
finishes (text ∷ texts) p d line at h = elim (cases_Bool (is_blank_line text)) [
  | inl blank ↦
      let passed = blank_passed p d line text blank at in
      let rest = finishes texts p d (line + 1) at (sym (passed.faults texts) ∙ h) in
      (rest.0, rest.1, rest.2, rest.3, passed.says texts ∙ rest.4, rest.5)
  | inr filled ↦
      let next = faultless_advances p line text texts filled h in
      let statement = advance_says p line text next.0 next.1 in
      let taken = takes d statement.0
      (end_opened p d line text statement.0 next.0 at statement.1 next.1) in
      let passed = line_passed p d line text statement.0 next.0 taken.0 filled at statement.1 next.1
      taken.1 in
      let rest = finishes texts next.0 taken.0 (line + 1) passed.at
      (sym (passed.faults texts) ∙ h) in
      (rest.0, rest.1, rest.2, rest.3, passed.says texts ∙ rest.4, rest.5)
]

spells_one : (text : List ℕ) → program_text_fault text ≡ None
    → (p : Parts) × Spells text p × IsWithinLimits p
spells_one text h =
    grind (arith, finishes, nothing_at_start, text_fault_is, nothing_told, end_spelled, end_within)

pub faultless : (text : List ℕ)
    → (program_text_fault text ≡ None) ↔ ((p : Parts) × Spells text p × IsWithinLimits p)
faultless text = (spells_one text, λ (p, spells, small). no_fault text p spells small)

pub never_both : (text : List ℕ) (f : TextFault) (p : Parts) → FirstTextFault text f
    → Spells text p → IsWithinLimits p → ⊥
never_both text f p first spells small = let none = no_fault text p spells small in cc
