-- The run of an admissible program: it ends with no trap, within its quote.
use Rattle.std.proofs.{Common.{◌≡◌, ℕ, zero, suc, ◌+◌, ◌*◌, ◌^◌, ◌≤◌, ◌<◌, Bool, true, Option, Some, None, refl, sym, subst, arith, zero-add, le_refl, lt_of_lt_of_le, ◌∙◌}, lemmas.Grind.common_steps}
use Rattle.star_safety.proofs.{Common.{Agrees, BadRegister, Code, Context, Each, End, Ended, EndsWith, Faulty, IsAccepted, IsLoaded, KnownRow, Limited, List, Parts, Registers, Row, Share, State, Stop, Then, Trapped, World, WrittenTwice, act, after, after_op, after_scan, all_shares, and_from, at_end, at_first, at_position, code_puts_to, code_size, empty_state, first_answer_none, first_reason, group_at, in_scan, instructions_of, meaning, meaning_of, mul-le-mul_left, mul-le-mul_right, nat_lt, neg_ℤ, no_registers, none_open, not, op_reason, open_with, or_none, or_parts, pos, quote, reason_of, run_while, scan_reason, shown_fault, turns, turns_met, unless, unless_none, unless_unshown, unsigned_abs, with_entry}, Tally.{no_tally, plus, times, Tallies, no_tallies, plus_all, times_all, tally_of, sum_fits, sum_range_is, most_is}, TallyOrder.{AtMost, at_most_refl, at_most_trans, at_most_plus, at_most_assoc, at_most_both, at_most_once}, Gains.{op_gain, op_counted, gain, gained, whole_gain}, Forward.first_standing, Tallied.{tallies_fit, all_tallies_fit}, Instructions.{unmapped_none, agrees_entry, AreTallied, act_good}, NarrowRanges.{AllNarrow, sum_small}, NarrowCode.{end_fits, first_fits}, Turns.{Safe, all_tallied_more, safe_more, safe_follow, safe_scans, safe_each}, Sound.{quoted_each, in_time, at_position_none, IsReady, ready_then, ready_in, ready_after, op_room}}

abbrev pub AllFit : Parts → Tallies → Type 0
AllFit parts m = (g : ℕ) → tallies_fit (group_at parts g).aggregates 0 (m g) ≡ true

module _ (w : World) (catalogue : IsLoaded w) (parts : Parts) (may : ℕ → Bool) (m : Tallies)
    (fit : AllFit parts m) where
  pub sound : (c : Code) (at : ℕ) (pending : ℕ → Bool) (x : Context) (y : Tallies)
      (regs : Registers) (s : State) → IsReady w parts m pending x y at c → Agrees w x.known regs
      → AreTallied y s → ((k : ℕ) → k < s.visits + turns_met w.size 1 c → may k ≡ true)
      → Safe (plus_all y (gain w parts x c)) (s.visits + turns_met w.size 1 c)
      (meaning w parts may c at x.inside regs s)
  sound Stop at pending x y regs s ready agrees tallied allowed = (
    all_tallied_more y (plus_all y no_tallies) s (λ g a. at_most_plus (y g a) no_tally) tallied,
    omega arith,
  )
  sound (Then op rest) at pending x y regs s ready agrees tallied allowed =
      let add = op_gain parts x op in
      let more = gain w parts (after_op w parts x op) rest in
      safe_follow w (after_op w parts x op).known (plus_all y add)
      (plus_all y (plus_all add more)) s.visits (s.visits + turns_met w.size 1 rest) at
      (act w parts x.inside regs s op) (meaning w parts may rest (at + 1) x.inside)
      (act_good w catalogue parts x y regs s agrees tallied (open_with pending rest) op m
      (at_position_none at _
      (or_none (at_position at (op_reason w parts (open_with pending rest) x op))
      _ ready.accepted).0)
      (λ g a o. ready.closed g a (or_parts (pending g) (code_puts_to g rest) o).0)
      (op_room w parts m pending x y at op rest ready)
      fit)
      (λ g a. at_most_both (y g a) (y g a) (add g a) (plus (add g a) (more g a))
      (at_most_refl (y g a)) (at_most_plus (add g a) (more g a))) (omega arith)
      (λ regs' s' agrees' tallied' same.
      safe_more (plus_all (plus_all y add) more) (plus_all y (plus_all add more))
      (s'.visits + turns_met w.size 1 rest) (s.visits + turns_met w.size 1 rest)
      (meaning w parts may rest (at + 1) x.inside regs' s')
      (λ g a. at_most_assoc (y g a) (add g a) (more g a)) (omega arith)
      (sound rest (at + 1) pending (after_op w parts x op) (plus_all y add) regs' s'
      (ready_then w parts m pending x y at op rest ready) agrees' tallied'
      (λ k h. allowed k (omega arith))))
  sound (Each table r body rest) at pending x y regs s ready agrees tallied allowed =
      let rows = w.size table in
      let inner = in_scan w x table r in
      let add = gain w parts inner body in
      let later = after_scan x (at_end w parts inner body) in
      let more = gain w parts later rest in
      let turn : ℕ → State → End =
      λ j. meaning w parts may body (at + 1) true (with_entry regs r (Row table j)) in
      let next : State → End = meaning w parts may rest (at + 1 + code_size body) x.inside regs in
      let p = or_none (at_position at (scan_reason parts x r)) _ ready.accepted in
      let here = or_none (unless (nat_lt r parts.registers) BadRegister)
      (unless (not (x.written r)) WrittenTwice)
      (unmapped_none Faulty _ (at_position_none at (scan_reason parts x r) p.0)) in
      let whole = quoted_each w table r body rest in
      let allowed' : (k : ℕ)
      → k < s.visits + (rows * (turns_met w.size 1 body + 1) + turns_met w.size 1 rest)
      → may k ≡ true = subst (λ v. (k : ℕ) → k < s.visits + v → may k ≡ true) whole allowed in
      safe_scans (plus_all y (plus_all (times_all rows add) more))
      (s.visits + turns_met w.size 1 (Each table r body rest)) at (nat_lt r parts.registers) _
      (unless_none _ BadRegister here.0)
      (subst (λ v. Safe (plus_all y (plus_all (times_all rows add) more)) (s.visits + v)
      (after (turns may rows 0 turn s) next)) (sym whole)
      (safe_each y add more s.visits (turns_met w.size 1 body)
      (turns_met w.size 1 rest) rows may turn next
      allowed'
      (λ j s' lt q b. sound body (at + 1) (open_with pending (Each table r body rest)) inner
      (plus_all y (times_all j add)) (with_entry regs r (Row table j)) s'
      (ready_in w parts m pending x y at table r body rest ready j lt)
      (agrees_entry w x.known regs r (KnownRow table) (Row table j) agrees (refl, lt)) q
      (λ k h. allowed' k
      (lt_of_lt_of_le h (in_time s.visits s'.visits (turns_met w.size 1 body)
      (turns_met w.size 1 rest) rows j lt b))))
      (λ s' q b. sound rest (at + 1 + code_size body) pending later
      (plus_all y (times_all rows add)) regs s'
      (ready_after w parts m pending x y at table r body rest ready) agrees q
      (λ k h. allowed' k (omega (arith, b, h))))
      s tallied refl))

-- ---- few updates

then_few : (so_far n next size q last : ℕ) → next ≤ so_far + n → last ≤ next + size * (n + q)
    → last ≤ so_far + (1 + size) * (n + q)
then_few so_far n next size q last h k = omega arith

each_few : (so_far n rows inside last body rest q qb qr : ℕ) → q ≡ n * rows + qb + qr
    → inside ≤ so_far + body * (n * rows + qb) → last ≤ inside + rest * (n + qr)
    → last ≤ so_far + (1 + body + rest) * (n + q)
each_few so_far n rows inside last body rest q qb qr e h k =
    let a : body * (n * rows + qb) ≤ body * (n + q) = mul-le-mul_left body (omega arith) in
    let b : rest * (n + qr) ≤ rest * (n + q) = mul-le-mul_left rest (omega arith) in
    omega arith

-- the numbers put for an aggregate, by the number of instructions and the quote
few : (w : World) (parts : Parts) (x : Context) (c : Code) (g a : ℕ)
    → (tally_of ((at_end w parts x c).so_far g a)).many
    ≤ (tally_of (x.so_far g a)).many + code_size c * (x.met + turns_met w.size x.met c)
few w parts x Stop g a = omega arith
few w parts x (Then op rest) g a = then_few (tally_of (x.so_far g a)).many x.met _ (code_size rest)
    (turns_met w.size x.met rest) _
    (op_counted w parts x op g a) (few w parts (after_op w parts x op) rest g a)
few w parts x (Each t r body rest) g a =
    let inner = in_scan w x t r in
    each_few (tally_of (x.so_far g a)).many x.met (w.size t) _ _ (code_size body) (code_size rest)
    (turns_met w.size x.met (Each t r body rest)) (turns_met w.size (x.met * w.size t) body)
    (turns_met w.size x.met rest) refl (few w parts inner body g a)
    (few w parts (after_scan x (at_end w parts inner body)) rest g a)

few_enough : (size q m : ℕ) → size ≤ 4096 → q ≤ 10 ^ 15 → m ≤ 0 + size * (1 + q) → m < 2 ^ 63
few_enough size q m h k b = let a : size * (1 + q) ≤ 4096 * (1 + q) =
    mul-le-mul_right (1 + q) h in omega arith

-- ---- a whole program

-- what the code of a program adds, met once
all_gained : (w : World) (parts : Parts) (g a : ℕ)
    → AtMost (plus no_tally (gain w parts at_first parts.body g a)) (whole_gain w parts g a)
all_gained w parts g a =
    let t = gain w parts at_first parts.body g a in
    at_most_trans _ _ _
    (at_most_both no_tally no_tally t (times 1 t) (at_most_refl no_tally)
    (at_most_once 1 t (le_refl 1))) (gained w parts at_first parts.body g a)

-- no instruction is refused
pub not_refused : (w : World) (parts : Parts) → IsAccepted w parts
    → first_reason w parts none_open at_first 1 parts.body ≡ None
not_refused w parts accepted = first_standing w parts
    ∙ first_answer_none (reason_of w parts) (instructions_of w parts)
    accepted.admissible.instructions

-- before the first instruction
pub ready_first : (w : World) (parts : Parts)
    → first_reason w parts none_open at_first 1 parts.body ≡ None
    → IsReady w parts (whole_gain w parts) none_open at_first no_tallies 1 parts.body
ready_first w parts accepted = grind (arith, common_steps, at_most_refl, no_tally, all_gained)

-- few enough to be counted
pub few_puts : (w : World) (parts : Parts) → IsAccepted w parts
    → (g a : ℕ) → (whole_gain w parts g a).many < 2 ^ 63
few_puts w parts accepted g a =
    few_enough (code_size parts.body) (quote w.size parts) (whole_gain w parts g a).many
    accepted.limits.instructions accepted.cheap (few w parts at_first parts.body g a)

-- how far below 0 a number lies
negated : (n : ℕ) → unsigned_abs (neg_ℤ (pos n)) ≡ n
negated zero = refl
negated (suc n) = refl

-- few numbers of 64 bits add up within 128
few_fit : (ss : List Share) → AllNarrow ss → (tally_of ss).many < 2 ^ 63
    → sum_fits (tally_of ss) ≡ true
few_fit ss all h =
    grind (arith, common_steps, tally_of, sum_range_is, sum_small, most_is, negated, and_from)

-- each number that is put has 64 bits
pub all_narrow : (w : World) (parts : Parts) → IsAccepted w parts
    → (g a : ℕ) → AllNarrow (all_shares w parts g a)
all_narrow w parts accepted =
    (end_fits w parts parts.body none_open 1 at_first (first_fits parts)
    (not_refused w parts accepted)).each

pub all_fit : (w : World) (parts : Parts) → IsAccepted w parts → AllFit parts (whole_gain w parts)
all_fit w parts accepted g = all_tallies_fit (group_at parts g).aggregates 0 (whole_gain w parts g)
    (λ a. few_fit (all_shares w parts g a) (all_narrow w parts accepted g a)
    (few_puts w parts accepted g a)) (few_puts w parts accepted g)

pub nothing_tallied : AreTallied no_tallies empty_state
nothing_tallied g a =
    record { above = omega arith; below = omega arith; many = omega arith; each = tt }

-- where as many turns may begin as are quoted
pub never_traps : (w : World) (parts : Parts) (may : ℕ → Bool) → IsAccepted w parts
    → ((k : ℕ) → k < quote w.size parts → may k ≡ true)
    → Safe (whole_gain w parts) (quote w.size parts) (meaning_of w may parts)
never_traps w parts may accepted allowed =
    safe_more (plus_all no_tallies (gain w parts at_first parts.body)) (whole_gain w parts)
    (0 + quote w.size parts) (quote w.size parts) (meaning_of w may parts)
    (all_gained w parts) (omega arith)
    (sound w accepted.loaded parts may (whole_gain w parts)
    (all_fit w parts accepted) parts.body 1 none_open at_first no_tallies no_registers empty_state
    (ready_first w parts (not_refused w parts accepted)) (λ r. tt) nothing_tallied
    (λ k h. allowed k (subst (λ v. k < v) (zero-add (quote w.size parts)) h)))

-- ---- and its report

pub safe_ends : (y : Tallies) (v : ℕ) (e : End) (Done : State → Type 0) → Safe y v e
    → ((s : State) → AreTallied y s → s.visits ≤ v → Done s) → EndsWith e Done
safe_ends y v (Ended s) Done h done = done s h.0 h.1
safe_ends y v (Trapped at trap) Done h done = h
safe_ends y v Limited Done h done = h

ends_shown : (o : Option ℕ) (go : Unit {0} → End) (Done : State → Type 0) → o ≡ None
    → EndsWith (go tt) Done → EndsWith (unless_unshown o go) Done
ends_shown None go Done e h = h
ends_shown (Some index) go Done e h = absurd (cc)

pub ends : (w : World) (parts : Parts) (may : ℕ → Bool) → IsAccepted w parts
    → ((k : ℕ) → k < quote w.size parts → may k ≡ true) → (Done : State → Type 0)
    → ((s : State) → AreTallied (whole_gain w parts) s → s.visits ≤ quote w.size parts → Done s)
    → EndsWith (run_while w may parts) Done
ends w parts may accepted allowed Done done =
    ends_shown (shown_fault parts) (λ _. meaning_of w may parts) Done accepted.admissible.report
    (safe_ends (whole_gain w parts) (quote w.size parts) (meaning_of w may parts) Done
    (never_traps w parts may accepted allowed) done)
