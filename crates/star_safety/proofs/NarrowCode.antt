-- Where nothing refuses some code, what is known at its end lies within 2 ^ 63 of zero, and so does
-- each number that it puts.
use Rattle.std.proofs.{Common.{◌≡◌, ℕ, ◌+◌, Bool, None, arith}, lemmas.Grind.common_steps}
use Rattle.star_safety.proofs.{Common.{Code, Context, Each, Op, Parts, Stop, TableId, Then, World, after_op, after_scan, at_end, at_first, at_position, code_size, first_reason, in_scan, op_reason, open_with, or_none, scan_reason}, Sound.at_position_none, NarrowRanges.{Fits, zero_narrow, entry_narrow, after_narrow}}

-- at the first instruction
pub first_fits : (parts : Parts) → Fits parts at_first
first_fits parts = record { known = λ r. zero_narrow; each = λ g a. tt }

pub op_fits : (w : World) (parts : Parts) (pending : ℕ → Bool) (x : Context) (op : Op)
    → Fits parts x → op_reason w parts pending x op ≡ None → Fits parts (after_op w parts x op)
op_fits w parts pending x op fits e = grind (arith, common_steps, after_narrow, or_none)

pub in_fits : (w : World) (parts : Parts) (x : Context) (table : TableId) (r : ℕ)
    → Fits parts x → Fits parts (in_scan w x table r)
in_fits w parts x table r fits = grind (arith, common_steps, entry_narrow)

pub past_fits : (parts : Parts) (x end : Context) → Fits parts x → Fits parts end
    → Fits parts (after_scan x end)
past_fits parts x end fits ended = record { known = fits.known; each = ended.each }

pub end_fits : (w : World) (parts : Parts) (c : Code) (pending : ℕ → Bool) (at : ℕ) (x : Context)
    → Fits parts x → first_reason w parts pending x at c ≡ None → Fits parts (at_end w parts x c)
end_fits w parts Stop pending at x fits e = fits
end_fits w parts (Then op rest) pending at x fits e =
    let p = or_none (at_position at (op_reason w parts (open_with pending rest) x op)) _ e in
    end_fits w parts rest pending (at + 1) (after_op w parts x op)
    (op_fits w parts (open_with pending rest) x op fits (at_position_none at _ p.0)) p.1
end_fits w parts (Each table r body rest) pending at x fits e =
    let inner = in_scan w x table r in
    let p = or_none (at_position at (scan_reason parts x r)) _ e in
    let within = open_with pending (Each table r body rest) in
    let q = or_none (first_reason w parts within inner (at + 1) body) _ p.1 in
    end_fits w parts rest pending (at + 1 + code_size body)
    (after_scan x (at_end w parts inner body))
    (past_fits parts x (at_end w parts inner body) fits
    (end_fits w parts body within (at + 1) inner (in_fits w parts x table r fits) q.0)) q.1
