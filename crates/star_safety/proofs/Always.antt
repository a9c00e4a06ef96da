-- What is known before a run holds at every moment of it.
use Rattle.std.proofs.{Common.{◌≡◌, ℕ, zero, suc, ◌+◌, ◌*◌, ◌^◌, ◌≤◌, ◌<◌, Bool, true, false, List, [], ◌∷◌, refl, sym, subst, arith, le_trans}, lemmas.Grind.common_steps}
use Rattle.star_safety.proofs.{Common.{Agrees, AllKnown, BadRegister, Code, Context, Count, Each, Effect, End, Faulty, Holds, HoldsThroughout, InEachTurn, IsAccepted, IsLoaded, IsMoment, KnownRow, Onward, Parts, Registers, Row, Shares, State, Stop, Then, Throughout, TotalsLie, World, WrittenTwice, act, after_op, after_scan, all_shares, at_end, at_first, at_position, code_puts_to, code_size, empty_state, group_at, in_scan, key_value_cmp, ltb-true, meaning, members, nat_lt, no_registers, none_open, not, numbers_for, op_reason, open_with, or_none, or_parts, picked, quote, scan_reason, slice_index_or, sum_of, turns, turns_met, unless, unless_none, visited, with_entry, ℤ}, Tally.{Tally, Tallies, no_tallies, plus_all, times_all, tallies_of, tally_of, tally_sum, sum_range_is}, TallyOrder.{AtMost, at_most_trans, at_most_plus, at_most_turn}, Gains.{op_gain, gain, whole_gain}, Room.has_room, Tallied.{sum_up, sum_down, IsTallied, tallied_more, tallied_members, sums_lie, shares_lie}, Instructions.{unmapped_none, agrees_entry, AreTallied, IsGood, act_good}, Turns.{Safe, all_tallied_more, safe_more, safe_turns, at_start}, Sound.{quoted_each, in_time, at_position_none, IsReady, ready_then, ready_in, ready_after, op_room}, Runs.{AllFit, sound, not_refused, ready_first, all_fit, few_puts, nothing_tallied, safe_ends}}

-- ---- one moment

-- some of the numbers add up to no more than all
picked_less : (picks : List Bool) (vs : List ℤ) → (sum_up (picked picks vs) ≤ sum_up vs)
    × (sum_down (picked picks vs) ≤ sum_down vs)
picked_less [] vs = (omega arith, omega arith)
picked_less (b ∷ bs) [] = (omega arith, omega arith)
picked_less (true ∷ bs) (v ∷ vs) = let r =
    picked_less bs vs in (omega (arith, r.0), omega (arith, r.1))
picked_less (false ∷ bs) (v ∷ vs) = let r =
    picked_less bs vs in (omega (arith, r.0), omega (arith, r.1))

picked_lies : (t : Tally) (picks : List Bool) (vs : List ℤ) → IsTallied t vs
    → Holds (tally_sum t) (sum_of (picked picks vs))
picked_lies t picks vs h = let r = picked_less picks vs in
    sums_lie t (picked picks vs) (omega (arith, r.0, h.above)) (omega (arith, r.1, h.below))

-- what all updates of a program may add up to fits their bits
record Fits (parts : Parts) (m : Tallies) : Type 0 where
  sums : AllFit parts m
  few : (g a : ℕ) → (m g a).many < 2 ^ 63

moment : (w : World) (parts : Parts) (all : Shares) (known : AllKnown) (y : Tallies)
    (regs : Registers) (s : State) → Fits parts (tallies_of all) → Agrees w known regs
    → AreTallied y s → ((g a : ℕ) → AtMost (y g a) (tally_of (all g a)))
    → s.visits ≤ quote w.size parts → IsMoment w parts all known regs s
moment w parts all known y regs s fit agrees tallied room quoted = record {
  registers = agrees;
  sums = λ g a picks. subst
      (λ r. Holds r (sum_of (picked picks (numbers_for a (s.updates_of g)))))
      (sym (sum_range_is (all g a)))
      (picked_lies (tally_of (all g a)) picks (numbers_for a (s.updates_of g)) (within g a));
  room = λ g. has_room (group_at parts g) (tallies_of all g) (s.updates_of g) (within g)
      (fit.sums g) (fit.few g 0);
  visits = quoted;
}
  where
    within : (g a : ℕ) → IsTallied (tally_of (all g a)) (numbers_for a (s.updates_of g))
    within g a =
        tallied_more (y g a) (tally_of (all g a)) (numbers_for a (s.updates_of g)) (room g a)
        (tallied g a)

-- ---- from moment to moment

onward : (w : World) (known : AllKnown) (y : Tallies) (visits : ℕ) (e : Effect)
    (Next : Registers → State → Type 0) → IsGood w known y visits e
    → ((regs : Registers) (s : State) → Agrees w known regs → AreTallied y s → s.visits ≡ visits
    → Next regs s) → Onward e Next
onward w known y visits e Next h go = grind (arith, common_steps)

in_each_turn : (y add : Tallies) (start inner rows : ℕ) (turn : ℕ → State → End)
    (Holding : ℕ → State → Type 0)
    → ((j : ℕ) (s : State) → j < rows → AreTallied (plus_all y (times_all j add)) s
    → s.visits ≤ start + j * (inner + 1) + 1 → Holding j s
    × Safe (plus_all (plus_all y (times_all j add)) add) (s.visits + inner) (turn j s))
    → (k j : ℕ) → j + k ≡ rows → (s : State) → AreTallied (plus_all y (times_all j add)) s
    → s.visits ≤ start + j * (inner + 1) → InEachTurn k j turn Holding s
in_each_turn y add start inner rows turn Holding one zero j e s q b = tt
in_each_turn y add start inner rows turn Holding one (suc k) j e s q b =
    let r = one j (visited s) (omega arith) q (omega arith) in (
      r.0,
      safe_ends (plus_all (plus_all y (times_all j add)) add) (s.visits + 1 + inner)
          (turn j (visited s)) (InEachTurn k (j + 1) turn Holding) r.1
          (λ s' q' b'. in_each_turn y add start inner rows turn Holding one k (j + 1) (omega arith)
          s' (all_tallied_more _ _ s' (λ g a. at_most_turn j (y g a) (add g a)) q')
          (omega arith)),
    )

in_bound : (start visits inner j : ℕ) → visits ≤ start + j * (inner + 1) + 1
    → visits + inner ≤ start + (j + 1) * (inner + 1)
in_bound start visits inner j h = omega arith

module _ (w : World) (catalogue : IsLoaded w) (parts : Parts) (all : Shares)
    (fit : Fits parts (tallies_of all))
  where
    here_fits : (pending : ℕ → Bool) (x : Context) (y : Tallies) (at : ℕ) (c : Code)
        → IsReady w parts (tallies_of all) pending x y at c
        → (g a : ℕ) → AtMost (y g a) (tally_of (all g a))
    here_fits pending x y at c ready g a =
        at_most_trans _ _ _ (at_most_plus (y g a) (gain w parts x c g a)) (ready.room g a)

    always : (c : Code) (at : ℕ) (pending : ℕ → Bool) (x : Context) (y : Tallies) (regs : Registers)
        (s : State) → IsReady w parts (tallies_of all) pending x y at c → Agrees w x.known regs
        → AreTallied y s → s.visits + turns_met w.size 1 c ≤ quote w.size parts
        → Throughout w parts all x c at regs s
    always Stop at pending x y regs s ready agrees tallied quoted =
        moment w parts all x.known y regs s fit agrees tallied (here_fits pending x y at Stop ready)
        (omega (arith, quoted))
    always (Then op rest) at pending x y regs s ready agrees tallied quoted = (
      moment w parts all x.known y regs s fit agrees tallied (here_fits pending x y at
          (Then op rest) ready) (omega (arith, quoted)),
      onward w (after_op w parts x op).known (plus_all y (op_gain parts x op)) s.visits
          (act w parts x.inside regs s op) _
          (act_good w catalogue parts x y regs s agrees tallied (open_with pending rest) op
          (tallies_of all)
          (at_position_none at _
          (or_none (at_position at (op_reason w parts (open_with pending rest) x op))
          _ ready.accepted).0)
          (λ g a o. ready.closed g a (or_parts (pending g) (code_puts_to g rest) o).0)
          (op_room w parts (tallies_of all) pending x y at op rest ready)
          fit.sums)
          (λ regs' s' agrees' tallied' same. always rest (at + 1) pending (after_op w parts x op)
          (plus_all y (op_gain parts x op)) regs' s'
          (ready_then w parts (tallies_of all) pending x y at op rest ready) agrees' tallied' (omega
          (arith, same, quoted))),
    )
    always (Each table r body rest) at pending x y regs s ready agrees tallied quoted =
        let rows = w.size table in
        let inner = in_scan w x table r in
        let add = gain w parts inner body in
        let met = turns_met w.size 1 body in
        let later = turns_met w.size 1 rest in
        let whole = quoted_each w table r body rest in
        let within : s.visits + (rows * (met + 1) + later) ≤ quote w.size parts =
        omega (arith, quoted, whole) in
        let p = or_none (at_position at (scan_reason parts x r)) _ ready.accepted in
        let here = or_none (unless (nat_lt r parts.registers) BadRegister)
        (unless (not (x.written r)) WrittenTwice)
        (unmapped_none Faulty _ (at_position_none at (scan_reason parts x r) p.0)) in
        let turn : ℕ → State → End =
        λ j. meaning w parts (λ visits. true) body (at + 1) true
        (with_entry regs r (Row table j)) in
        let entered : (j : ℕ) → j < rows → Agrees w inner.known (with_entry regs r (Row table j)) =
        λ j lt. agrees_entry w x.known regs r (KnownRow table) (Row table j) agrees (refl, lt) in
        let safe_turn : (j : ℕ) (s' : State) → j < rows → AreTallied (plus_all y (times_all j add))
        s'
        → Safe (plus_all (plus_all y (times_all j add)) add) (s'.visits + met) (turn j s') =
        λ j s' lt q.
        sound w catalogue parts (λ visits. true) (tallies_of all) fit.sums body (at + 1)
        (open_with pending (Each table r body rest)) inner
        (plus_all y (times_all j add)) (with_entry regs r (Row table j)) s'
        (ready_in w parts (tallies_of all) pending x y at table r body rest ready j lt)
        (entered j lt) q (λ k h. refl) in (
          moment w parts all x.known y regs s fit agrees tallied
              (here_fits pending x y at (Each table r body rest) ready) (omega (arith, within)),
          ltb-true r parts.registers (unless_none _ BadRegister here.0),
          in_each_turn y add s.visits met rows turn _
              (λ j s' lt q b. (
                always body (at + 1) (open_with pending (Each table r body rest)) inner (plus_all y
                    (times_all j add)) (with_entry regs r (Row table j)) s'
                    (ready_in w parts (tallies_of all) pending x y at table r body rest ready j lt)
                    (entered j lt) q
                    (le_trans (in_time s.visits s'.visits met later rows j lt b) within),
                safe_turn j s' lt q,
              ))
              rows 0 (omega arith) s (at_start y add s tallied) (omega arith),
          safe_ends (plus_all y (times_all rows add)) (s.visits + rows * (met + 1))
              (turns (λ visits. true) rows 0 turn s) _
              (safe_turns y add s.visits met rows (λ visits. true) turn (λ k h. refl)
              (λ j s' lt q b. safe_more (plus_all (plus_all y (times_all j add)) add)
              (plus_all y (times_all (j + 1) add)) (s'.visits + met) (s.visits + (j + 1) *
              (met + 1)) (turn j s')
              (λ g a. at_most_turn j (y g a) (add g a)) (in_bound s.visits s'.visits met j b)
              (safe_turn j s' lt q))
              rows 0 (omega arith) s (at_start y add s tallied) (omega arith))
              (λ s' q b. always rest (at + 1 + code_size body) pending
              (after_scan x (at_end w parts inner body)) (plus_all y (times_all rows add)) regs s'
              (ready_after w parts (tallies_of all) pending x y at table r body rest ready) agrees q
              (omega (arith, b, within))),
        )

-- ---- a whole program

pub accepted_throughout : (w : World) (parts : Parts) → IsAccepted w parts → HoldsThroughout w parts
accepted_throughout w parts accepted = always w accepted.loaded parts (all_shares w parts)
    (record { sums = all_fit w parts accepted; few = few_puts w parts accepted }) parts.body 1
    none_open at_first no_tallies no_registers empty_state
    (ready_first w parts (not_refused w parts accepted)) (λ r. tt) nothing_tallied (omega arith)

pub totals_lie : (w : World) (parts : Parts) (s : State) → AreTallied (whole_gain w parts) s
    → TotalsLie w parts s
totals_lie w parts s tallied =
    λ g index keys. shares_lie (slice_index_or (group_at parts g).aggregates index Count)
    (all_shares w parts g index) (numbers_for index (members key_value_cmp keys (s.updates_of g)))
    (tallied_members (whole_gain w parts g index) index keys (s.updates_of g) (tallied g index))
