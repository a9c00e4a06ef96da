-- An admissible program never traps and makes no more turns than its quote.
use Rattle.std.proofs.{Common.{◌≡◌, ℕ, ◌+◌, ◌*◌, ◌≤◌, ◌<◌, Bool, true, false, Option, Some, None, refl, arith}, lemmas.Grind.common_steps}
use Rattle.star_safety.proofs.{Common.{Code, Context, Each, Op, Parts, Put, Stop, TableId, Then, World, after_op, after_scan, at_end, at_position, code_puts_to, code_size, first_reason, group_at, if◌then◌else◌, in_scan, mul-le-mul_right, nat_eq, op_puts_to, op_reason, open_with, or_none, or_parts, scan_reason, turns_met}, Tally.{Tally, no_tally, plus, times, Tallies, plus_all, times_all, tally_of}, Gains.{put_tally, op_gain, op_gained, gain, scan_gained}, TallyOrder.{AtMost, at_most_refl, at_most_trans, at_most_plus, at_most_assoc, at_most_both, at_most_turn, at_most_times, at_most_once, at_most_times_both, at_most_nothing}}

-- ---- the quote

quoted-times : (w : World) (n : ℕ) (c : Code) → turns_met w.size n c ≡ n * turns_met w.size 1 c
quoted-times w n Stop = omega arith
quoted-times w n (Then op rest) = quoted-times w n rest
quoted-times w n (Each t r body rest) =
    grind (
      arith,
      common_steps,
      turns_met,
      quoted-times w (n * w.size t) body,
      quoted-times w (1 * w.size t) body,
      quoted-times w n rest,
    )

pub quoted_each : (w : World) (table : TableId) (r : ℕ) (body rest : Code)
    → turns_met w.size 1 (Each table r body rest)
    ≡ w.size table * (turns_met w.size 1 body + 1) + turns_met w.size 1 rest
quoted_each w table r body rest = grind (arith, common_steps, turns_met, quoted-times)

-- ---- what is put

pub at_position_none : {A : Type 0} (n : ℕ) (o : Option A) → at_position n o ≡ None → o ≡ None
at_position_none n None e = refl
at_position_none n (Some x) e = absurd (cc)

if_false : (b : Bool) (t : Tally) → b ≡ false → AtMost (if b then t else no_tally) no_tally
if_false true t e = absurd (cc)
if_false false t e = at_most_refl no_tally

op_adds_nothing : (parts : Parts) (x : Context) (op : Op) (g a : ℕ) → op_puts_to g op ≡ false
    → AtMost (op_gain parts x op g a) no_tally
op_adds_nothing parts x (Put h ks vs) g a e =
    if_false (nat_eq g h) (put_tally (group_at parts h) x.known vs a) e
op_adds_nothing parts x _ g a e = at_most_refl no_tally

adds_nothing : (w : World) (parts : Parts) (x : Context) (c : Code) (g a : ℕ)
    → code_puts_to g c ≡ false → AtMost (gain w parts x c g a) no_tally
adds_nothing w parts x Stop g a e = at_most_refl no_tally
adds_nothing w parts x (Then op rest) g a e = at_most_both _ no_tally _ no_tally
    (op_adds_nothing parts x op g a (or_parts (op_puts_to g op) (code_puts_to g rest) e).0)
    (adds_nothing w parts _ rest g a (or_parts (op_puts_to g op) (code_puts_to g rest) e).1)
adds_nothing w parts x (Each t r body rest) g a e = at_most_both _ no_tally _ no_tally
    (at_most_trans _ (times (w.size t) no_tally) no_tally
    (at_most_times_both (w.size t) _ no_tally
    (adds_nothing w parts (in_scan w x t r) body g a
    (or_parts (code_puts_to g body) (code_puts_to g rest) e).0))
    (record { above = omega arith; below = omega arith; many = omega arith; each = tt }))
    (adds_nothing w parts _ rest g a (or_parts (code_puts_to g body) (code_puts_to g rest) e).1)

-- ---- the run

pub met_once : (n rows j : ℕ) → 1 ≤ n → j < rows → 1 ≤ n * rows
met_once n rows j some lt = let h : 1 * rows ≤ n * rows = mul-le-mul_right rows some in omega arith

-- a turn ends within the visits of its scan
pub in_time : (start visits inner later rows j : ℕ) → j < rows
    → visits ≤ start + j * (inner + 1) + 1 → visits + inner ≤ start + (rows * (inner + 1) + later)
in_time start visits inner later rows j lt b =
    let room : (j + 1) * (inner + 1) ≤ rows * (inner + 1) =
    mul-le-mul_right (inner + 1) (omega arith) in omega arith

-- where no instruction is refused, what is known before some code, and what is put so far: at most
-- y, in groups that aren't open at most what is known, and with all that the code adds at most m
pub record IsReady (w : World) (parts : Parts) (m : Tallies) (pending : ℕ → Bool) (x : Context)
    (y : Tallies) (at : ℕ) (c : Code) : Type 0 where
  pub some : 1 ≤ x.met
  pub accepted : first_reason w parts pending x at c ≡ None
  pub closed : (g a : ℕ) → pending g ≡ false → AtMost (y g a) (tally_of (x.so_far g a))
  pub room : (g a : ℕ) → AtMost (plus (y g a) (gain w parts x c g a)) (m g a)

-- after an instruction
pub ready_then : (w : World) (parts : Parts) (m : Tallies) (pending : ℕ → Bool) (x : Context)
    (y : Tallies) (at : ℕ) (op : Op) (rest : Code) → IsReady w parts m pending x y at (Then op rest)
    → IsReady w parts m pending (after_op w parts x op) (plus_all y (op_gain parts x op)) (at + 1)
    rest
ready_then w parts m pending x y at op rest ready =
    let add = op_gain parts x op in
    record {
      some = ready.some;
      accepted = (or_none (at_position at (op_reason w parts (open_with pending rest) x op)) _
          ready.accepted).1;
      closed = λ g a o. at_most_trans _ _ _
          (at_most_both (y g a) (tally_of (x.so_far g a)) (add g a) (times x.met (add g a))
          (ready.closed g a o) (at_most_once x.met (add g a) ready.some))
          (op_gained w parts x op g a);
      room = λ g a. at_most_trans _ _ _
          (at_most_assoc (y g a) (add g a) (gain w parts (after_op w parts x op) rest g a))
          (ready.room g a);
    }

-- in a scan, before turn j
pub ready_in : (w : World) (parts : Parts) (m : Tallies) (pending : ℕ → Bool) (x : Context)
    (y : Tallies) (at : ℕ) (table : TableId) (r : ℕ) (body rest : Code)
    → IsReady w parts m pending x y at (Each table r body rest) → (j : ℕ) → j < w.size table
    → IsReady w parts m (open_with pending (Each table r body rest)) (in_scan w x table r)
    (plus_all y (times_all j (gain w parts (in_scan w x table r) body))) (at + 1) body
ready_in w parts m pending x y at table r body rest ready j lt =
    let inner = in_scan w x table r in
    let add = gain w parts inner body in
    let rows = w.size table in
    let p = or_none (at_position at (scan_reason parts x r)) _ ready.accepted in
    let more = gain w parts (after_scan x (at_end w parts inner body)) rest in
    record {
      some = met_once x.met rows j ready.some lt;
      accepted = (or_none (first_reason w parts (open_with pending (Each table r body rest))
          inner (at + 1) body) _ p.1).0;
      closed = λ g a o. at_most_trans (plus (y g a) (times j (add g a)))
          (plus (y g a) (times j no_tally)) (tally_of (x.so_far g a))
          (at_most_both (y g a) (y g a) (times j (add g a)) (times j no_tally)
          (at_most_refl (y g a))
          (at_most_times_both j (add g a) no_tally
          (adds_nothing w parts inner body g a
          (or_parts (code_puts_to g body) (code_puts_to g rest)
          (or_parts (pending g) _ o).1).0)))
          (at_most_trans (plus (y g a) (times j no_tally)) (y g a) (tally_of (x.so_far g a))
          (at_most_nothing j (y g a)) (ready.closed g a (or_parts (pending g) _ o).0));
      room = λ g a. at_most_trans _ _ _ (at_most_turn j (y g a) (add g a))
          (at_most_trans _ _ _
          (at_most_both (y g a) (y g a) (times (j + 1) (add g a))
          (plus (times rows (add g a)) (more g a)) (at_most_refl (y g a))
          (at_most_trans _ _ _ (at_most_times (j + 1) rows (add g a) (next_below j rows lt))
          (at_most_plus (times rows (add g a)) (more g a)))) (ready.room g a));
    }
  where
    next_below : (j rows : ℕ) → j < rows → j + 1 ≤ rows
    next_below j rows h = omega arith

-- after a scan
pub ready_after : (w : World) (parts : Parts) (m : Tallies) (pending : ℕ → Bool) (x : Context)
    (y : Tallies) (at : ℕ) (table : TableId) (r : ℕ) (body rest : Code)
    → IsReady w parts m pending x y at (Each table r body rest)
    → IsReady w parts m pending (after_scan x (at_end w parts (in_scan w x table r) body))
    (plus_all y (times_all (w.size table) (gain w parts (in_scan w x table r) body)))
    (at + 1 + code_size body) rest
ready_after w parts m pending x y at table r body rest ready =
    let inner = in_scan w x table r in
    let add = times_all (w.size table) (gain w parts inner body) in
    let p = or_none (at_position at (scan_reason parts x r)) _ ready.accepted in
    record {
      some = ready.some;
      accepted = (or_none (first_reason w parts (open_with pending (Each table r body rest))
          inner (at + 1) body) _ p.1).1;
      closed = λ g a o. at_most_trans _ _ _
          (at_most_both (y g a) (tally_of (x.so_far g a)) (add g a) (times x.met (add g a))
          (ready.closed g a o) (at_most_once x.met (add g a) ready.some))
          (scan_gained w parts x table r body rest g a);
      room = λ g a. at_most_trans _ _ _
          (at_most_assoc (y g a) (add g a) (gain w parts (after_scan x (at_end w parts inner body))
          rest g a)) (ready.room g a);
    }

-- the instruction itself
pub op_room : (w : World) (parts : Parts) (m : Tallies) (pending : ℕ → Bool) (x : Context)
    (y : Tallies) (at : ℕ) (op : Op) (rest : Code) → IsReady w parts m pending x y at (Then op rest)
    → (g a : ℕ) → AtMost (plus (y g a) (op_gain parts x op g a)) (m g a)
op_room w parts m pending x y at op rest ready g a =
    let more = gain w parts (after_op w parts x op) rest in
    at_most_trans _ _ _
    (at_most_both (y g a) (y g a) (op_gain parts x op g a)
    (plus (op_gain parts x op g a) (more g a)) (at_most_refl (y g a))
    (at_most_plus (op_gain parts x op g a) (more g a))) (ready.room g a)
