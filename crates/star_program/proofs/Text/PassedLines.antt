-- Lines are read into a draft: each that is passed, each that is refused, and the end of the text.
use Rattle.std.{specs.Prelude.{if◌then◌else◌, nat_lt}, proofs.Common.{◌≡◌, ◌⊎◌, ◌==◌, ◌&&◌, ◌<◌, ◌≤◌, ◌+◌, ◌-◌, ◌∙◌, ◌∷◌, ◌++◌, [], ℕ, Bool, true, false, List, Option, Some, None, Ok, Err, append_assoc, length, map, arith, ap, refl, sym, inl, inr, lit≤}, proofs.lemmas.Bool.{and_parts, cases_Bool, eq-eqb, eqb-false, eqb-true, leb-true}, proofs.lemmas.List.{map_push, nil_from_length}, proofs.lemmas.Grind.common_steps}
use Rattle.star_program.{specs.Code.{Stop, Then}, specs.Limits.{IsSmall, IsWithinLimits}, specs.Text.Lines.{is_blank_line, lines_of, words_of}, specs.Private.Within.IsWithinLargest, specs.Text.Said.{said, said_in}, specs.Text.Spelling.Spells, specs.Private.Drafts.{Counts, IsAdded, IsAt, IsClosed, IsInOrder, IsLineRefused, IsPassed, begun, finished, nothing_read, told, whole_draft}, specs.Text.FirstFaults.{advance, after_in, begins_report, end_in, is_small, is_within, state_after, state_after_step, state_reached, start}, specs.declared.group.GroupDecl.GroupDecl, specs.declared.op.Op.Op, specs.declared.spelling.draft.Draft.Draft, specs.declared.spelling.fault.TextFault.TextFault, specs.declared.spelling.text_state.TextState.TextState, specs.declared.spelling.text_state.Stage.Stage, specs.declared.spelling.statement.Statement.Statement, proofs.Text.FaultLemmas.{advanced, blank_line, state, refused, start_within, within_from}, proofs.Text.OneProgram.program_said, proofs.Text.AddedStatements.{begun_group, begun_body, begun_scan, begun_end, whole_show, whole_sort, counts_registers, counts_group, counts_step, counts_scan, counts_end, counts_show, counts_sort}}
use Rattle.star_program.specs.declared.spelling.fault.TextFault.TheVariants as fault
use Rattle.star_program.specs.declared.spelling.text_state.Stage.TheVariants as stage
use Rattle.star_program.specs.declared.spelling.statement.Statement.TheVariants as says
use Rattle.star_schema.specs.declared.table.TableId.{TableId}

-- ---- a statement that may stand there

no_end : (b : Bool) (line : ℕ)
    → (if b then Some (fault.BadLine line) else Some fault.OpenScan) ≡ None → ⊥
no_end true line h = cc
no_end false line h = cc

some_depth : (p q : TextState) → state_after_step p says.End ≡ Some q → 0 < p.depth
some_depth p q h = grind (arith, cases_Bool, eqb-false)

pub ends_some : (st : Stage) (p q : TextState) → after_in st p says.End ≡ Some q → 0 < p.depth
ends_some stage.Groups p q h = some_depth p q h
ends_some stage.Body p q h = some_depth p q h
ends_some st p q h = let bad : ⊥ = cc in absurd bad

small_registers : (n : ℕ) → is_small (says.Registers n) ≡ true → n ≤ 4096
unfolding is_small
small_registers n h = leb-true n 4096 h

small_group : (state : ℕ) (group : GroupDecl) → is_small (says.Group state group) ≡ true
    → IsSmall group
unfolding is_small
small_group state group h = grind (arith, and_parts, leb-true)

abbrev Goes : TextState → Draft → Statement → TextState → Draft → Type 0
Goes p d s q e = IsAt q e × (told q.stage e ≡ told p.stage d ++ s ∷ [])

-- the same, where the draft says what was begun
abbrev Steps : Draft → Statement → TextState → Draft → Type 0
Steps d s q e = IsAt q e × (told q.stage e ≡ begun d ++ s ∷ [])

-- a draft at a state that is known
arrives : (r q : TextState) (d e : Draft) (ss : List Statement) → r ≡ q → IsWithinLargest q → e ≡ d
    → Counts r.groups r.instructions r.depth r.shows r.sorts d → IsInOrder r.stage d
    → told r.stage d ≡ ss → IsAt q e × (told q.stage e ≡ ss)
arrives r q d e ss is within added counts order says = grind arith

-- a step of the body, from the groups on
module _ (g i dp sh so : ℕ) (d : Draft) (q : TextState) (e : Draft) (counts : Counts g i dp sh so d)
    (order : (d.shows ≡ []) × (d.sorts ≡ [])) (within : IsWithinLargest q) where
  act_goes : (op : Op) → state stage.Body g (i + 1) dp sh so ≡ q → IsAdded d (says.Act op) e
      → dp ≤ 3 → Steps d (says.Act op) q e
  act_goes op is added room =
      arrives _ q _ e _ is within added (counts_step g i dp sh so op d room counts) order
      (begun_body d (Then op Stop))

  scan_goes : (t : TableId) (r : ℕ) → state stage.Body g (i + 1) (dp + 1) sh so ≡ q
      → IsAdded d (says.Scan t r) e → Steps d (says.Scan t r) q e
  scan_goes t r is added = grind (arith, common_steps, state, arrives, counts_scan, begun_scan)

  end_goes : state stage.Body g i (dp - 1) sh so ≡ q → IsClosed d e → Steps d says.End q e
  end_goes is added = arrives _ q e e _ is within refl (counts_end g i dp sh so d e added counts)
      (ap (λ x. x.shows) added.body ∙ order.0, ap (λ x. x.sorts) added.body ∙ order.1)
      (begun_end d e added)

  report_goes : (n : ℕ) → after_in stage.Body (state stage.Body g i dp sh so) (says.Report n)
      ≡ Some q → IsAdded d (says.Report n) e → Steps d (says.Report n) q e
  report_goes n may added =
      grind (arith, common_steps, cases_Bool, state, nil_from_length, eqb-true, arrives)

-- a statement after its like, by the part of the program
goes : (st : Stage) (g i dp sh so : ℕ) (d : Draft) (s : Statement) (q : TextState) (e : Draft)
    → IsAt (state st g i dp sh so) d → after_in st (state st g i dp sh so) s ≡ Some q
    → IsWithinLargest q → is_small s ≡ true → IsAdded d s e → Goes (state st g i dp sh so) d s q e
goes stage.Header g i dp sh so d says.Header q e at may within small added =
    let is : state stage.Registers g i dp sh so ≡ q = cc in
    arrives _ q _ e _ is within added at.counts at.order refl
goes stage.Registers g i dp sh so d (says.Registers n) q e at may within small added =
    grind (arith, state, arrives, counts_registers, small_registers)
goes stage.Groups g i dp sh so d (says.Group n group) q e at may within small added =
    grind (arith, common_steps, cases_Bool, state, arrives, counts_group, small_group, begun_group)
goes stage.Groups g i dp sh so d (says.Act op) q e at may within small added =
    act_goes g i dp sh so d q e at.counts (at.order.2, at.order.3) within op (cc) added
    at.within.depth
goes stage.Groups g i dp sh so d (says.Scan t r) q e at may within small added =
    scan_goes g i dp sh so d q e at.counts (at.order.2, at.order.3) within t r (cc) added
goes stage.Groups g i dp sh so d says.End q e at may within small added =
    let zero_long : dp ≡ 0 = sym at.counts.2.open_scans ∙ ap length at.order.0 in
    let bad : ⊥ = let nowhere = rw (eq-eqb dp 0 zero_long) at may in cc in absurd bad
goes stage.Groups g i dp sh so d (says.Report n) q e at may within small added =
    report_goes g i dp sh so d q e at.counts (at.order.2, at.order.3) within n may added
goes stage.Body g i dp sh so d (says.Act op) q e at may within small added =
    act_goes g i dp sh so d q e at.counts at.order within op (cc) added at.within.depth
goes stage.Body g i dp sh so d (says.Scan t r) q e at may within small added =
    scan_goes g i dp sh so d q e at.counts at.order within t r (cc) added
goes stage.Body g i dp sh so d says.End q e at may within small added =
    elim (cases_Bool (dp == 0)) [
      | inl none ↦ let bad : ⊥ = let nowhere = rw none at may in cc in absurd bad
      | inr some ↦
          let there = rw some at may in
          end_goes g i dp sh so d q e at.counts at.order within (cc) added
    ]
goes stage.Body g i dp sh so d (says.Report n) q e at may within small added =
    report_goes g i dp sh so d q e at.counts at.order within n may added
goes stage.Shows g i dp sh so d (says.Show show) q e at may within small added =
    let is : state stage.Shows g i dp (sh + 1) so ≡ q = cc in
    arrives _ q _ e _ is within added (counts_show g i dp sh so show d at.counts) at.order
    (whole_show d show at.order.1)
goes stage.Shows g i dp sh so d (says.Sort key) q e at may within small added =
    grind (arith, state, arrives, counts_sort, whole_sort)
goes stage.Sorts g i dp sh so d (says.Sort key) q e at may within small added =
    let is : state stage.Sorts g i dp sh (so + 1) ≡ q = cc in
    arrives _ q _ e _ is within added (counts_sort g i dp sh so key d at.counts) at.order
    (whole_sort d key)
goes st g i dp sh so d s q e at may within small added = let bad : ⊥ = cc in absurd bad

pub after_is : (p : TextState) (s : Statement) → state_after p s ≡ after_in p.stage p s
unfolding state_after
after_is p s = refl

pub goes_on : (p : TextState) (d : Draft) (s : Statement) (q : TextState) (e : Draft) → IsAt p d
    → state_after p s ≡ Some q → IsWithinLargest q → is_small s ≡ true → IsAdded d s e
    → Goes p d s q e
goes_on p d s q e at may within small added =
    goes p.stage p.groups p.instructions p.depth p.shows p.sorts d s q e at
    (sym (after_is p s) ∙ may) within small added

-- ---- a line

pub reached_ok : (p : TextState) (line : ℕ) (s : Statement) (o : Option TextState) (q : TextState)
    → state_reached p line s o ≡ Ok q → (o ≡ Some q) × (is_within q ≡ true) × (is_small s ≡ true)
reached_ok p line s it q h = grind (arith, cases_Bool, and_parts)

abbrev pub opens_report : TextState → List ℕ → Bool
opens_report p text = nat_lt 0 p.depth && begins_report (words_of text)

pub advance_ok : (p : TextState) (line : ℕ) (text : List ℕ) (s : Statement) (q : TextState)
    → said text ≡ Some s → advance p line text ≡ Ok q
    → state_reached p line s (state_after p s) ≡ Ok q
unfolding advance
advance_ok p line text s q is h = grind (arith, cases_Bool)

said_more : (p : TextState) (d : Draft) (s : Statement) (q : TextState) (e : Draft) (text : List ℕ)
    (texts : List (List ℕ)) → is_blank_line text ≡ false → said text ≡ Some s
    → told q.stage e ≡ told p.stage d ++ s ∷ []
    → map Some (told p.stage d) ++ said_in (text ∷ texts)
    ≡ map Some (told q.stage e) ++ said_in texts
said_more p d s q e text texts filled is more = grind (arith, map_push, append_assoc)

-- a line whose statement was added
pub line_passed : (p : TextState) (d : Draft) (line : ℕ) (text : List ℕ) (s : Statement)
    (q : TextState) (e : Draft) → is_blank_line text ≡ false → IsAt p d → said text ≡ Some s
    → advance p line text ≡ Ok q → IsAdded d s e → IsPassed p d line text q e
line_passed p d line text s q e filled at is goes_there added =
    let reaches = reached_ok p line s (state_after p s) q
    (advance_ok p line text s q is goes_there) in
    let next = goes_on p d s q e at reaches.0 (within_from q reaches.1) reaches.2 added in
    record {
      at = next.0;
      faults = λ texts. advanced p line text texts q filled goes_there;
      says = λ texts. said_more p d s q e text texts filled is next.1;
    }

pub blank_passed : (p : TextState) (d : Draft) (line : ℕ) (text : List ℕ)
    → is_blank_line text ≡ true → IsAt p d → IsPassed p d line text p d
blank_passed p d line text blank at = grind (arith, blank_line)

-- the end of a scan is reached in one alone
pub end_opened : (p : TextState) (d : Draft) (line : ℕ) (text : List ℕ) (s : Statement)
    (q : TextState) → IsAt p d → said text ≡ Some s → advance p line text ≡ Ok q → s ≡ says.End
    → 0 < length d.scans
end_opened p d line text s q at is goes_there end =
    let reaches = reached_ok p line s (state_after p s) q
    (advance_ok p line text s q is goes_there) in
    let may : after_in p.stage p says.End ≡ Some q =
    sym (after_is p says.End) ∙ ap (state_after p) (sym end) ∙ reaches.0 in
    let some : 0 < p.depth = ends_some p.stage p q may in
    omega (arith, at.counts.2.open_scans, some)

-- ---- the ends of a text

pub nothing_at_start : IsAt start nothing_read
unfolding start nothing_read
nothing_at_start = grind (arith, start_within, lit≤)

pub nothing_told : told start.stage nothing_read ≡ []
unfolding start
nothing_told = refl

-- only the parts below the report end a text
ended_in : (st : Stage) (depth line : ℕ) (d : Draft) → IsInOrder st d → end_in st depth line ≡ None
    → (d.scans ≡ []) × (told st d ≡ whole_draft d)
ended_in it depth line d order h = grind (arith, no_end)

pub end_within : (p : TextState) (d : Draft) (line : ℕ) → IsAt p d
    → end_in p.stage p.depth line ≡ None → IsWithinLimits (finished d)
end_within p d line at h = grind (arith, ended_in)

pub end_spelled : (p : TextState) (d : Draft) (line : ℕ) (text : List ℕ) → IsAt p d
    → end_in p.stage p.depth line ≡ None → said_in (lines_of text) ≡ map Some (told p.stage d)
    → Spells text (finished d)
unfolding Spells
end_spelled p d line text at h all =
    let last = ended_in p.stage p.depth line d at.order h in
    all ∙ ap (map Some) (last.1 ∙ sym (program_said (finished d)))

-- a line that was refused
pub line_refused : (p : TextState) (line : ℕ) (text : List ℕ) (f : TextFault)
    → is_blank_line text ≡ false → (f ≡ fault.OutOfMemory) ⊎ (advance p line text ≡ Err f)
    → IsLineRefused f p line text
line_refused p line text f filled (inl memory) = inl memory
line_refused p line text f filled (inr refusal) =
    inr (λ texts. refused p line text texts f filled refusal)
