-- What holds throughout a run holds at each moment that it meets, and the other way round.
use Rattle.std.proofs.{Common.{◌≡◌, ℕ, zero, suc, ◌+◌, ◌<◌, Bool, true, false, refl, subst, sym, arith}, lemmas.Grind.common_steps}
use Rattle.star_safety.proofs.{Common.{AtEveryMoment, Code, Context, Each, Effect, End, Ended, EndsWith, GoesOn, HoldsFrom, HoldsThroughout, InEachTurn, IsMetFrom, Limited, Moment, Onward, Parts, Registers, Row, Shares, State, Stop, Then, Throughout, Trapped, World, act, after, after_op, after_scan, all_shares, at_end, behind, behind_scan, code_size, first_moment, follow, in_scan, in_turn, itself, ltb-true, meaning, meaning_of, moment, nat_lt, scans, turns, visited, with_entry}, BeforePuts.moment_of}

-- ---- from the whole run to a moment

-- what goes on behind a run that ends
after_ended : (e : End) (Next : State → Type 0) (go : State → End) (t : State) (C : Type 0)
    → EndsWith e Next → after e go ≡ Ended t → ((s : State) → Next s → go s ≡ Ended t → C) → C
after_ended e Next go t C h is next = grind (arith, common_steps)

-- in the turn behind `k` others
in_one_turn : (k count from : ℕ) (turn : ℕ → State → End) (Holding : ℕ → State → Type 0)
    (s t : State) → k < count → InEachTurn count from turn Holding s
    → turns (λ visits. true) k from turn s ≡ Ended t → Holding (from + k) (visited t)
in_one_turn k zero from turn Holding s t small h is = absurd (omega arith)
in_one_turn zero (suc count) from turn Holding s t small h is = grind (arith, common_steps, visited)
in_one_turn (suc k) (suc count) from turn Holding s t small h is =
    let there : from + 1 + k ≡ from + suc k = omega arith in
    subst (λ row. Holding row (visited t)) there
    (after_ended (turn from (visited s)) (InEachTurn count (from + 1) turn Holding)
    (turns (λ visits. true) k (from + 1) turn) t (Holding (from + 1 + k) (visited t)) h.1 is
    (λ x rest goes. in_one_turn k count (from + 1) turn Holding x t (omega arith) rest goes))

module _ (w : World) (parts : Parts) (all : Shares) where
  -- throughout what a moment has left of its body
  abbrev pub Onwards : Moment → Type 0
  Onwards m = Throughout w parts all m.context m.left m.at m.registers m.store

  pub met_onwards : (first m : Moment) → Onwards first → IsMetFrom w parts first m → Onwards m
  met_onwards first m h itself = h
  met_onwards first m h (behind x op rest at before after s t earlier goes) =
      let was = met_onwards first (moment x (Then op rest) at before s) h earlier in
      subst (λ e. Onward e (Throughout w parts all (after_op w parts x op) rest (at + 1))) goes
      was.1
  met_onwards first m h (in_turn x table r body rest at registers s t row earlier declared within
      turned) =
      let was = met_onwards first (moment x (Each table r body rest) at registers s) h earlier in
      let turn : ℕ → State → End = λ j.
      meaning w parts (λ visits. true) body (at + 1) true (with_entry registers r (Row table j)) in
      let Holding : ℕ → State → Type 0 = λ j.
      Throughout w parts all (in_scan w x table r) body (at + 1)
      (with_entry registers r (Row table j)) in
      let here : 0 + row ≡ row = omega arith in
      subst (λ j. Holding j (visited t)) here
      (in_one_turn row (w.size table) 0 turn Holding s t within was.2 turned)
  met_onwards first m h (behind_scan x table r body rest at registers s t earlier declared turned) =
      grind (
        arith,
        common_steps,
        moment,
        after_scan,
        at_end,
        in_scan,
        code_size,
        met_onwards first (moment x (Each table r body rest) at registers s) h earlier,
      )

  pub holds_from : (first : Moment) → Onwards first → HoldsFrom w parts all first
  holds_from first h m met =
      moment_of w parts all m.context m.left m.at m.registers m.store (met_onwards first m h met)

  -- ---- from each moment to the whole run

  abbrev Ends : End → Type 0
  Ends e = EndsWith e (λ s. Unit {0})

  ends_parts : (e : End) (go : State → End) → Ends (after e go)
      → (t : State) × (e ≡ Ended t) × Ends (go t)
  ends_parts e go h = grind (arith, common_steps)

  ends_declared : (at : ℕ) (b : Bool) (go : Unit {0} → End) → Ends (scans at b go)
      → (b ≡ true) × Ends (go tt)
  ends_declared at true go h = (refl, h)
  ends_declared at false go h = absurd h

  onward_from : (e : Effect) (at : ℕ) (go : Registers → State → End)
      (Next : Registers → State → Type 0) → Ends (follow at e go)
      → ((registers : Registers) (s : State) → e ≡ GoesOn registers s → Ends (go registers s)
      → Next registers s) → Onward e Next
  onward_from e at go Next h next = grind (arith, common_steps)

  -- the turns from one on, behind those that went before
  turns_more : (k from : ℕ) (turn : ℕ → State → End) (s t u : State)
      → turns (λ visits. true) k from turn s ≡ Ended t → turn (from + k) (visited t) ≡ Ended u
      → turns (λ visits. true) (suc k) from turn s ≡ Ended u
  turns_more zero from turn s t u is next = grind (arith, common_steps, visited)
  turns_more (suc k) from turn s t u is next =
      let e : End = turn from (visited s) in
      let split = ended_parts e (turns (λ visits. true) k (from + 1) turn) t is in
      let there : from + suc k ≡ from + 1 + k = omega arith in
      let rest : turns (λ visits. true) (suc k) (from + 1) turn split.0 ≡ Ended u =
      turns_more k (from + 1) turn split.0 t u split.2
      (subst (λ row. turn row (visited t) ≡ Ended u) there next) in
      rw split.1 rest
    where
      ended_parts : (e : End) (go : State → End) (t : State) → after e go ≡ Ended t
          → (x : State) × (e ≡ Ended x) × (go x ≡ Ended t)
      ended_parts (Ended x) go t is = (x, refl, is)
      ended_parts (Trapped at trap) go t is = let bad : ⊥ = cc in absurd bad
      ended_parts Limited go t is = let bad : ⊥ = cc in absurd bad

  in_turns : (rows : ℕ) (turn : ℕ → State → End) (Holding : ℕ → State → Type 0) (first : State)
      → ((row : ℕ) (s : State) → row < rows → turns (λ visits. true) row 0 turn first ≡ Ended s
      → Ends (turn row (visited s)) → Holding row (visited s)) → (count row : ℕ)
      → row + count ≡ rows → (s : State) → turns (λ visits. true) row 0 turn first ≡ Ended s
      → Ends (turns (λ visits. true) count row turn s) → InEachTurn count row turn Holding s
  in_turns rows turn Holding first one zero row e s is ends = tt
  in_turns rows turn Holding first one (suc count) row e s is ends =
      let parts = ends_parts (turn row (visited s)) (turns (λ visits. true) count (row + 1) turn)
      ends in
      let here : 0 + row ≡ row = omega arith in
      let more : turns (λ visits. true) (suc row) 0 turn first ≡ Ended parts.0 =
      turns_more row 0 turn first s parts.0 is
      (subst (λ j. turn j (visited s) ≡ Ended parts.0) (sym here) parts.1) in
      let next : suc row ≡ row + 1 = omega arith in (
        one row s (omega arith) is (subst Ends (sym parts.1) tt),
        subst (λ x. EndsWith x (InEachTurn count (row + 1) turn Holding)) (sym parts.1)
            (in_turns rows turn Holding first one count (row + 1) (omega arith) parts.0
            (subst (λ j. turns (λ visits. true) j 0 turn first ≡ Ended parts.0) next more) parts.2),
      )

  module _ (first : Moment) (holds : HoldsFrom w parts all first) where
    throughout_from : (c : Code) (x : Context) (at : ℕ) (registers : Registers) (s : State)
        → IsMetFrom w parts first (moment x c at registers s)
        → Ends (meaning w parts (λ visits. true) c at x.inside registers s)
        → Throughout w parts all x c at registers s
    throughout_from Stop x at registers s met ends = holds (moment x Stop at registers s) met
    throughout_from (Then op rest) x at registers s met ends = (
      holds (moment x (Then op rest) at registers s) met,
      onward_from (act w parts x.inside registers s op) at
          (meaning w parts (λ visits. true) rest (at + 1) x.inside) _ ends
          (λ after t goes later. throughout_from rest (after_op w parts x op) (at + 1) after t
          (behind x op rest at registers after s t met goes) later),
    )
    throughout_from (Each table r body rest) x at registers s met ends =
        let turn : ℕ → State → End = λ row.
        meaning w parts (λ visits. true) body (at + 1) true
        (with_entry registers r (Row table row)) in
        let go : State → End =
        meaning w parts (λ visits. true) rest (at + 1 + code_size body) x.inside registers in
        let scan = ends_declared at (nat_lt r parts.registers) _ ends in
        let declared : r < parts.registers = ltb-true r parts.registers scan.0 in
        let later = ends_parts (turns (λ visits. true) (w.size table) 0 turn s) go scan.1 in (
          holds (moment x (Each table r body rest) at registers s) met,
          declared,
          in_turns (w.size table) turn _ s
              (λ row t within turned over. throughout_from body (in_scan w x table r) (at + 1)
              (with_entry registers r (Row table row)) (visited t)
              (in_turn x table r body rest at registers s t row met declared within turned) over)
              (w.size table) 0 (omega arith) s refl (subst Ends (sym later.1) tt),
          subst (λ e. EndsWith e (Throughout w parts all
              (after_scan x (at_end w parts (in_scan w x table r) body)) rest
              (at + 1 + code_size body) registers)) (sym later.1)
              (throughout_from rest (after_scan x (at_end w parts (in_scan w x table r) body))
              (at + 1 + code_size body) registers later.0
              (behind_scan x table r body rest at registers s later.0 met declared later.1)
              later.2),
        )

-- ---- a whole run

pub throughout_holds : (w : World) (parts : Parts) → HoldsThroughout w parts → AtEveryMoment w parts
throughout_holds w parts h = holds_from w parts (all_shares w parts) (first_moment parts) h

pub holds_throughout : (w : World) (parts : Parts) → AtEveryMoment w parts
    → EndsWith (meaning_of w (λ visits. true) parts) (λ s. Unit {0}) → HoldsThroughout w parts
holds_throughout w parts holds ends =
    throughout_from w parts (all_shares w parts) (first_moment parts) holds parts.body
    (first_moment parts).context 1 (first_moment parts).registers (first_moment parts).store itself
    ends
