-- What instructions and code add each time that they are met.
use Rattle.std.proofs.{Common.{ℕ, ◌+◌, ◌≤◌, List, None, arith}, lemmas.Grind.common_steps}
use Rattle.star_safety.proofs.{Common.{AllKnown, Code, Context, Each, GroupDecl, Op, Parts, Put, Stop, TableId, Then, World, after_op, after_scan, all_shares, at_end, group_at, if◌then◌else◌, in_scan, nat_eq, put_known, put_share, range_at, slice_index_or}, Tally.{Tally, no_tally, once, plus, times, Tallies, no_tallies, plus_all, times_all, tally_of, tallies_of}, TallyOrder.{AtMost, at_most_refl, at_most_trans, at_most_both, at_most_spread, at_most_product, at_most_nothing}}

-- ---- an instruction

abbrev pub put_tally : GroupDecl → AllKnown → List ℕ → ℕ → Tally
put_tally d known values a = once (range_at (slice_index_or (put_known d known values) a None))

abbrev pub op_gain : Parts → Context → Op → Tallies
op_gain parts x (Put g ks vs) h a =
    if nat_eq h g then put_tally (group_at parts g) x.known vs a else no_tally
op_gain parts x _ h a = no_tally

-- after it that has been added, as often as it is met
pub op_gained : (w : World) (parts : Parts) (x : Context) (op : Op) (g a : ℕ)
    → AtMost (plus (tally_of (x.so_far g a)) (times x.met (op_gain parts x op g a)))
    (tally_of ((after_op w parts x op).so_far g a))
op_gained w parts x op g a =
    grind (arith, common_steps, tally_of, group_at, no_tally, at_most_refl, at_most_nothing)

-- and no more numbers than that
pub op_counted : (w : World) (parts : Parts) (x : Context) (op : Op) (g a : ℕ)
    → (tally_of ((after_op w parts x op).so_far g a)).many ≤ (tally_of (x.so_far g a)).many + x.met
op_counted w parts x op g a = grind (arith, common_steps, tally_of, put_share)

-- ---- code

abbrev pub gain : World → Parts → Context → Code → Tallies
gain w parts x Stop = no_tallies
gain w parts x (Then op rest) =
    plus_all (op_gain parts x op) (gain w parts (after_op w parts x op) rest)
gain w parts x (Each table r body rest) =
    let inner = in_scan w x table r in
    plus_all (times_all (w.size table) (gain w parts inner body))
    (gain w parts (after_scan x (at_end w parts inner body)) rest)

-- at its end that has been added, as often as it is met
pub gained : (w : World) (parts : Parts) (x : Context) (c : Code) (g a : ℕ)
    → AtMost (plus (tally_of (x.so_far g a)) (times x.met (gain w parts x c g a)))
    (tally_of ((at_end w parts x c).so_far g a))
gained w parts x Stop g a = at_most_nothing x.met (tally_of (x.so_far g a))
gained w parts x (Then op rest) g a =
    let next = after_op w parts x op in
    let add = op_gain parts x op g a in
    let more = times x.met (gain w parts next rest g a) in
    at_most_trans _ _ _
    (at_most_spread x.met (tally_of (x.so_far g a)) add (gain w parts next rest g a))
    (at_most_trans _ _ _
    (at_most_both (plus (tally_of (x.so_far g a)) (times x.met add)) (tally_of (next.so_far g a))
    more more (op_gained w parts x op g a) (at_most_refl more))
    (gained w parts next rest g a))
gained w parts x (Each table r body rest) g a =
    let inner = in_scan w x table r in
    let later = after_scan x (at_end w parts inner body) in
    let add = gain w parts inner body g a in
    let more = gain w parts later rest g a in
    let before = tally_of (x.so_far g a) in
    let turns = plus before (times x.met (times (w.size table) add)) in
    at_most_trans _ _ _ (at_most_spread x.met before (times (w.size table) add) more)
    (at_most_trans _ _ _
    (at_most_both turns (tally_of (later.so_far g a)) (times x.met more) (times x.met more)
    (at_most_trans _ _ _ (at_most_product x.met (w.size table) before add)
    (gained w parts inner body g a))
    (at_most_refl (times x.met more)))
    (gained w parts later rest g a))

-- so after all turns of a scan
pub scan_gained : (w : World) (parts : Parts) (x : Context) (table : TableId) (r : ℕ)
    (body rest : Code) (g a : ℕ)
    → (let inner = in_scan w x table r in
    AtMost
    (plus (tally_of (x.so_far g a)) (times x.met (times (w.size table)
    (gain w parts inner body g a))))
    (tally_of ((at_end w parts inner body).so_far g a)))
scan_gained w parts x table r body rest g a =
    at_most_trans _ _ _ (at_most_product x.met (w.size table) (tally_of (x.so_far g a)) _)
    (gained w parts (in_scan w x table r) body g a)

-- what all puts of a program add
abbrev pub whole_gain : World → Parts → Tallies
whole_gain w parts = tallies_of (all_shares w parts)
