-- A scan whose turns are safe is safe.
use Rattle.std.proofs.Common.{◌≡◌, ℕ, zero, suc, ◌+◌, ◌*◌, ◌≤◌, ◌<◌, Bool, true, false, subst, arith}
use Rattle.star_safety.proofs.{Common.{Agrees, AllKnown, Effect, End, Ended, EndsTurn, GoesOn, Limited, Registers, State, Trapped, Traps, World, after, begin, follow, mul-le-mul_right, numbers_for, scans, turns, visited}, Tally.{Tallies, times, plus_all, times_all}, TallyOrder.{AtMost, at_most_plus, at_most_assoc, at_most_turn}, Tallied.tallied_more, Instructions.{AreTallied, IsGood}}

-- the run ends with no trap, within these sums and `v` visits
abbrev pub Safe : Tallies → ℕ → End → Type 0
Safe y v (Ended s) = AreTallied y s × (s.visits ≤ v)
Safe y v (Trapped at trap) = ⊥
Safe y v Limited = ⊥

pub all_tallied_more : (y z : Tallies) (s : State) → ((g a : ℕ) → AtMost (y g a) (z g a))
    → AreTallied y s → AreTallied z s
all_tallied_more y z s p q g a =
    tallied_more (y g a) (z g a) (numbers_for a (s.updates_of g)) (p g a) (q g a)

pub safe_more : (y z : Tallies) (v u : ℕ) (e : End) → ((g a : ℕ) → AtMost (y g a) (z g a)) → v ≤ u
    → Safe y v e → Safe z u e
safe_more y z v u (Ended s) p h q = (all_tallied_more y z s p q.0, omega (arith, q.1))
safe_more y z v u (Trapped at trap) p h q = q
safe_more y z v u Limited p h q = q

safe_after : (y z : Tallies) (v u : ℕ) (e : End) (next : State → End) → Safe y v e
    → ((s : State) → AreTallied y s → s.visits ≤ v → Safe z u (next s)) → Safe z u (after e next)
safe_after y z v u (Ended s) next q h = h s q.0 q.1
safe_after y z v u (Trapped at trap) next q h = q
safe_after y z v u Limited next q h = q

pub safe_follow : (w : World) (known : AllKnown) (y z : Tallies) (visits v at : ℕ) (e : Effect)
    (next : Registers → State → End) → IsGood w known y visits e
    → ((g a : ℕ) → AtMost (y g a) (z g a)) → visits ≤ v
    → ((regs : Registers) (s : State) → Agrees w known regs → AreTallied y s → s.visits ≡ visits
    → Safe z v (next regs s)) → Safe z v (follow at e next)
safe_follow w known y z visits v at (GoesOn regs s) next q p h go = go regs s q.0 q.1 q.2
safe_follow w known y z visits v at (EndsTurn s) next q p h go =
    (all_tallied_more y z s p q.0, omega (arith, q.1))
safe_follow w known y z visits v at (Traps trap) next q p h go = q

pub safe_scans : (y : Tallies) (v at : ℕ) (b : Bool) (go : Unit {0} → End) → b ≡ true
    → Safe y v (go tt) → Safe y v (scans at b go)
safe_scans y v at true go e h = h
safe_scans y v at false go e h = absurd (cc)

safe_begin : (y : Tallies) (v : ℕ) (b : Bool) (s : State) (turn : State → End) → b ≡ true
    → Safe y v (turn (visited s)) → Safe y v (begin b s turn)
safe_begin y v true s turn e h = h
safe_begin y v false s turn e h = absurd (cc)

-- the turns of a scan, where each adds at most `add` and makes at most `inner` turns beside itself
pub safe_turns : (y add : Tallies) (start inner rows : ℕ) (may : ℕ → Bool) (turn : ℕ → State → End)
    → ((k : ℕ) → k < start + rows * (inner + 1) → may k ≡ true)
    → ((j : ℕ) (s : State) → j < rows → AreTallied (plus_all y (times_all j add)) s
    → s.visits ≤ start + j * (inner + 1) + 1
    → Safe (plus_all y (times_all (j + 1) add)) (start + (j + 1) * (inner + 1)) (turn j s))
    → (k j : ℕ) → j + k ≡ rows → (s : State) → AreTallied (plus_all y (times_all j add)) s
    → s.visits ≤ start + j * (inner + 1)
    → Safe (plus_all y (times_all rows add)) (start + rows * (inner + 1)) (turns may k j turn s)
safe_turns y add start inner rows may turn allowed one zero j e s q h =
    let r : j ≡ rows = omega arith in
    subst (λ n. Safe (plus_all y (times_all n add)) (start + n * (inner + 1)) (Ended s)) r (q, h)
safe_turns y add start inner rows may turn allowed one (suc k) j e s q h =
    let within : j < rows = omega arith in
    let room : (j + 1) * (inner + 1) ≤ rows * (inner + 1) =
    mul-le-mul_right (inner + 1) (omega arith) in
    safe_after (plus_all y (times_all (j + 1) add)) (plus_all y (times_all rows add))
    (start + (j + 1) * (inner + 1)) (start + rows * (inner + 1))
    (begin (may s.visits) s (turn j)) (turns may k (j + 1) turn)
    (safe_begin (plus_all y (times_all (j + 1) add)) (start + (j + 1) * (inner + 1))
    (may s.visits) s (turn j) (allowed s.visits (omega arith))
    (one j (visited s) within q (omega arith)))
    (λ s' q' h'. safe_turns y add start inner rows may turn allowed one k (j + 1)
    (omega arith) s' q' h')

-- before the first turn
pub at_start : (y add : Tallies) (s : State) → AreTallied y s
    → AreTallied (plus_all y (times_all 0 add)) s
at_start y add s q = all_tallied_more y (plus_all y (times_all 0 add)) s
    (λ g a. at_most_plus (y g a) (times 0 (add g a))) q

-- a scan and what follows it
pub safe_each : (y add more : Tallies) (start inner later rows : ℕ) (may : ℕ → Bool)
    (turn : ℕ → State → End) (next : State → End)
    → ((k : ℕ) → k < start + (rows * (inner + 1) + later) → may k ≡ true)
    → ((j : ℕ) (s : State) → j < rows → AreTallied (plus_all y (times_all j add)) s
    → s.visits ≤ start + j * (inner + 1) + 1
    → Safe (plus_all (plus_all y (times_all j add)) add) (s.visits + inner) (turn j s))
    → ((s : State) → AreTallied (plus_all y (times_all rows add)) s
    → s.visits ≤ start + rows * (inner + 1)
    → Safe (plus_all (plus_all y (times_all rows add)) more) (s.visits + later) (next s))
    → (s : State) → AreTallied y s → s.visits ≡ start
    → Safe (plus_all y (plus_all (times_all rows add) more)) (start + (rows * (inner + 1) + later))
    (after (turns may rows 0 turn s) next)
safe_each y add more start inner later rows may turn next allowed one go s tallied same =
    safe_after (plus_all y (times_all rows add)) (plus_all y (plus_all (times_all rows add) more))
    (start + rows * (inner + 1)) (start + (rows * (inner + 1) + later))
    (turns may rows 0 turn s) next
    (safe_turns y add start inner rows may turn (λ k h. allowed k (omega arith))
    (λ j s' lt q b. safe_more (plus_all (plus_all y (times_all j add)) add)
    (plus_all y (times_all (j + 1) add)) (s'.visits + inner) (start + (j + 1) * (inner + 1))
    (turn j s')
    (λ g a. at_most_turn j (y g a) (add g a)) (omega arith) (one j s' lt q b))
    rows 0 (omega arith) s (at_start y add s tallied) (omega arith))
    (λ s' q h. safe_more (plus_all (plus_all y (times_all rows add)) more)
    (plus_all y (plus_all (times_all rows add) more)) (s'.visits + later)
    (start + (rows * (inner + 1) + later)) (next s')
    (λ g a. at_most_assoc (y g a) (times rows (add g a)) (more g a)) (omega arith) (go s' q h))
