-- No run makes more turns than are quoted, and one that may make as many as that is the run without
-- a bound.
use Rattle.std.proofs.{Common.{◌≡◌, ℕ, zero, suc, ◌+◌, ◌*◌, ◌≤◌, ◌<◌, Bool, true, false, Option, Some, None, refl, subst, arith, zero-add, le_trans}, lemmas.Grind.common_steps}
use Rattle.star_safety.proofs.{Common.{Code, Each, Effect, End, Ended, EndsTurn, GoesOn, Limited, Op, Parts, Registers, Row, State, Stop, Then, TrapKind, Trapped, Traps, World, act, after, begin, bounded_run_of, code_size, effect_of, flag_read, follow, if◌then◌else◌, lt-ltb, meaning, mul-le-mul_right, nat_lt, quote, run_of, scans, trap_of, turns, turns_met, unless_trap, visited, with_entry}, Sound.{quoted_each, in_time}}

-- ---- an instruction begins no turn

abbrev BeginsNone : ℕ → Effect → Type 0
BeginsNone visits (GoesOn regs s) = s.visits ≡ visits
BeginsNone visits (EndsTurn s) = s.visits ≡ visits
BeginsNone visits (Traps trap) = Unit {0}

unless_none : (visits : ℕ) (o : Option TrapKind) (e : Effect) → BeginsNone visits e
    → BeginsNone visits (unless_trap o e)
unless_none visits None e h = h
unless_none visits (Some trap) e h = tt

keeps_none : (regs : Registers) (s : State) (b : Bool)
    → BeginsNone s.visits (if b then GoesOn regs s else EndsTurn s)
keeps_none regs s true = refl
keeps_none regs s false = refl

does_none : (w : World) (parts : Parts) (regs : Registers) (s : State) (op : Op)
    → BeginsNone s.visits (effect_of w parts regs s op)
does_none w parts regs s op = grind (arith, common_steps, keeps_none, flag_read)

acts_none : (w : World) (parts : Parts) (inside : Bool) (regs : Registers) (s : State) (op : Op)
    → BeginsNone s.visits (act w parts inside regs s op)
acts_none w parts inside regs s op =
    unless_none s.visits (trap_of w parts inside regs s op) (effect_of w parts regs s op)
    (does_none w parts regs s op)

-- ---- one run as the other, within a number of visits

abbrev Quoted : ℕ → End → Type 0
Quoted v (Ended s) = s.visits ≤ v
Quoted v (Trapped at trap) = Unit {0}
Quoted v Limited = ⊥

abbrev Same : ℕ → End → End → Type 0
Same v e e' = (e ≡ e') × Quoted v e'

quoted_wider : (v u : ℕ) (e : End) → v ≤ u → Quoted v e → Quoted u e
quoted_wider v u e h q = grind (arith, common_steps)

wider : (v u : ℕ) (e e' : End) → v ≤ u → Same v e e' → Same u e e'
wider v u e e' h q = (q.0, quoted_wider v u e' h q.1)

same_after : (v u : ℕ) (e e' : End) (f g : State → End) → Same v e e'
    → ((s : State) → s.visits ≤ v → Same u (f s) (g s)) → Same u (after e f) (after e' g)
same_after v u e e' f g q h = grind (arith, common_steps, after)

same_follow : (visits v at : ℕ) (e : Effect) (f g : Registers → State → End) → BeginsNone visits e
    → visits ≤ v → ((regs : Registers) (s : State) → s.visits ≡ visits
    → Same v (f regs s) (g regs s)) → Same v (follow at e f) (follow at e g)
same_follow visits v at e f g q b h = grind (arith, common_steps)

same_scans : (v at : ℕ) (b : Bool) (f g : Unit {0} → End) → Same v (f tt) (g tt)
    → Same v (scans at b f) (scans at b g)
same_scans v at true f g h = h
same_scans v at false f g h = (refl, tt)

same_begin : (v : ℕ) (b : Bool) (s : State) (f g : State → End) → b ≡ true
    → Same v (f (visited s)) (g (visited s)) → Same v (begin b s f) (begin true s g)
same_begin v true s f g e h = h
same_begin v false s f g e h = absurd (cc)

-- where each turn begins at most `inner` turns beside itself
same_turns : (start inner rows : ℕ) (may : ℕ → Bool) (f g : ℕ → State → End)
    → ((k : ℕ) → k < start + rows * (inner + 1) → may k ≡ true)
    → ((j : ℕ) (s : State) → j < rows → s.visits ≤ start + j * (inner + 1) + 1
    → Same (s.visits + inner) (f j s) (g j s))
    → (k j : ℕ) → j + k ≡ rows → (s : State) → s.visits ≤ start + j * (inner + 1)
    → Same (start + rows * (inner + 1)) (turns may k j f s) (turns (λ visits. true) k j g s)
same_turns start inner rows may f g allowed one zero j e s b = grind (arith, common_steps)
same_turns start inner rows may f g allowed one (suc k) j e s b =
    let within : j < rows = omega arith in
    let room : (j + 1) * (inner + 1) ≤ rows * (inner + 1) =
    mul-le-mul_right (inner + 1) (omega arith) in
    same_after (start + (j + 1) * (inner + 1)) (start + rows * (inner + 1))
    (begin (may s.visits) s (f j)) (begin true s (g j)) (turns may k (j + 1) f)
    (turns (λ visits. true) k (j + 1) g)
    (same_begin (start + (j + 1) * (inner + 1)) (may s.visits) s (f j) (g j)
    (allowed s.visits (omega arith))
    (wider (s.visits + 1 + inner) (start + (j + 1) * (inner + 1)) (f j (visited s))
    (g j (visited s)) (omega arith) (one j (visited s) within (omega arith))))
    (λ s' b'. same_turns start inner rows may f g allowed one k (j + 1) (omega arith) s' b')

module _ (w : World) (parts : Parts) (may : ℕ → Bool) where
  same_meaning : (c : Code) (at : ℕ) (inside : Bool) (regs : Registers) (s : State) (v : ℕ)
      → s.visits + turns_met w.size 1 c ≤ v → ((k : ℕ) → k < v → may k ≡ true)
      → Same (s.visits + turns_met w.size 1 c) (meaning w parts may c at inside regs s)
      (meaning w parts (λ visits. true) c at inside regs s)
  same_meaning Stop at inside regs s v h allowed = (refl, omega arith)
  same_meaning (Then op rest) at inside regs s v h allowed =
      same_follow s.visits (s.visits + turns_met w.size 1 rest) at (act w parts inside regs s op)
      (meaning w parts may rest (at + 1) inside)
      (meaning w parts (λ visits. true) rest (at + 1) inside)
      (acts_none w parts inside regs s op) (omega arith)
      (λ regs' s' e. subst
      (λ n. Same (n + turns_met w.size 1 rest) (meaning w parts may rest (at + 1) inside regs' s')
      (meaning w parts (λ visits. true) rest (at + 1) inside regs' s')) e
      (same_meaning rest (at + 1) inside regs' s' v
      (omega (arith, h, e)) allowed))
  same_meaning (Each table r body rest) at inside regs s v h allowed =
      let rows = w.size table in
      let met = turns_met w.size 1 body in
      let later = turns_met w.size 1 rest in
      let whole = quoted_each w table r body rest in
      same_scans (s.visits + turns_met w.size 1 (Each table r body rest)) at
      (nat_lt r parts.registers) _ _
      (same_after (s.visits + rows * (met + 1))
      (s.visits + turns_met w.size 1 (Each table r body rest)) _ _ _ _
      (same_turns s.visits met rows may _ _
      (λ k b. allowed k (omega (arith, b, h, whole)))
      (λ j s' lt b. same_meaning body (at + 1) true (with_entry regs r (Row table j)) s' v
      (le_trans (in_time s.visits s'.visits met later rows j lt b) (omega (arith, h, whole)))
      allowed)
      rows 0 (omega arith) s (omega arith))
      (λ s' b. wider (s'.visits + later) (s.visits + turns_met w.size 1 (Each table r body rest))
      (meaning w parts may rest (at + 1 + code_size body) inside regs s')
      (meaning w parts (λ visits. true) rest (at + 1 + code_size body) inside regs s')
      (omega (arith, b, whole))
      (same_meaning rest (at + 1 + code_size body) inside regs s' v
      (omega (arith, b, h, whole)) allowed)))

-- ---- a whole program

pub unbounded : (w : World) (parts : Parts) (most : ℕ) → quote w.size parts ≤ most
    → bounded_run_of w most parts ≡ run_of w parts
unbounded w parts most enough = grind (arith, common_steps, same_meaning, zero-add, lt-ltb)
