-- Every bound that a refusal tells fits 128 bits.
use Rattle.std.proofs.{Common.{◌≡◌, ℕ, ◌+◌, ◌*◌, ◌^◌, ◌≤◌, Bool, false, List, Option, Some, None, refl, ap, subst, ◌∙◌, arith, lit<, ◌⊎◌, inl, inr, ⊎_elim}, lemmas.Grind.common_steps}
use Rattle.star_safety.proofs.{Common.{AllNameI64, AreI64, Assign, Code, ColumnId, Context, Each, Fault, Faulty, FitsI128, FitsI64, IsWithinLimits, Keep, Known, NamesI64, Op, Overflow, Parts, Put, Range, Reached, Read, Reason, Refused, Stop, Then, World, after_op, after_scan, at_end, at_first, at_position, code_size, first_answer, first_reason, first_refusal, fits_i64, in_scan, instructions_of, is_text, kind_reason, leb-true, most_of, mul-le-mul_right, none_open, only, op_reason, open_with, option_map, option_or, overflow_of, pos, put_share, quote, range_reason, reason_of, refuses, result_known, scan_reason, source_reason, turns_met}, Sound.at_position_none, Forward.first_standing, Sizes.small_fits, NarrowRanges.{Fits, Wide, IsWide, Counts, result_wide}, NarrowCode.{op_fits, in_fits, past_fits, end_fits, first_fits}}

-- ---- the range that a reason tells

abbrev range_in : Reason → Range
range_in (Overflow low high columns) = record { low = low; high = high }
range_in _ = only (pos 0)

refused_as : (b : Bool) (reason told : Reason) → refuses b reason ≡ Some told → reason ≡ told
refused_as b reason told e = grind (arith, common_steps, told)

overflow_told : (w : World) (k : Known) (r : Range) (columns : List Reached) → IsWide k
    → overflow_of w k ≡ Some (Overflow r.low r.high columns) → Wide r
overflow_told w k r columns p e = grind (arith, common_steps, refused_as, fits_i64)

either_first : {A : Type 0} (a b : Option A) (v : A) → option_or a b ≡ Some v
    → (a ≡ Some v) ⊎ ((a ≡ None) × (b ≡ Some v))
either_first None b v e = inr (refl, e)
either_first (Some x) b v e = inl e

range_told : (w : World) (parts : Parts) (x : Context) (op : Op) (r : Range)
    (columns : List Reached) → Fits parts x → Counts x → NamesI64 op
    → ((c : ColumnId) → is_text c ≡ false → FitsI64 (w.bounds c))
    → range_reason w parts x op ≡ Some (Overflow r.low r.high columns) → Wide r
range_told w parts x (Put g ks vs) r columns fits counts named bounds e = absurd (cc)
range_told w parts x (Assign t (Read g a n)) r columns fits counts named bounds e =
    subst Wide (ap range_in (refused_as _ _ _ e))
    (result_wide w parts x t (Read g a n) fits counts named bounds)
range_told w parts x (Assign t o) r columns fits counts named bounds e =
    overflow_told w (result_known w parts x (Assign t o)) r columns
    (result_wide w parts x t o fits counts named bounds) e
range_told w parts x (Keep f) r columns fits counts named bounds e = absurd (cc)

faulty_no_range : (o : Option Fault) (r : Range) (columns : List Reached)
    → option_map Faulty o ≡ Some (Overflow r.low r.high columns) → ⊥
faulty_no_range None r columns e = absurd (cc)
faulty_no_range (Some fault) r columns e = absurd (cc)

source_no_range : (pending : ℕ → Bool) (x : Context) (op : Op) (r : Range) (columns : List Reached)
    → source_reason pending x op ≡ Some (Overflow r.low r.high columns) → ⊥
source_no_range pending x op r columns e = grind (arith, common_steps, refuses)

op_told : (w : World) (parts : Parts) (pending : ℕ → Bool) (x : Context) (op : Op) (r : Range)
    (columns : List Reached) → Fits parts x → Counts x → NamesI64 op
    → ((c : ColumnId) → is_text c ≡ false → FitsI64 (w.bounds c))
    → op_reason w parts pending x op ≡ Some (Overflow r.low r.high columns) → Wide r
op_told w parts pending x op r columns fits counts named bounds e =
    ⊎_elim (λ h. absurd (faulty_no_range _ r columns h))
    (λ h. ⊎_elim (λ k. absurd (source_no_range pending x op r columns k))
    (λ k. range_told w parts x op r columns fits counts named bounds k.1)
    (either_first (source_reason pending x op) (range_reason w parts x op)
    (Overflow r.low r.high columns) h.1))
    (either_first (kind_reason parts x op)
    (option_or (source_reason pending x op) (range_reason w parts x op))
    (Overflow r.low r.high columns) e)

-- ---- how many numbers are put

one_put : (w : World) (parts : Parts) (x : Context) (op : Op) (g a : ℕ)
    → most_of ((after_op w parts x op).so_far g a) ≤ most_of (x.so_far g a) + x.met
one_put w parts x op g a = grind (arith, common_steps, most_of, put_share)

-- how many more there are where each instruction is met as often as can be quoted
end_count : (w : World) (parts : Parts) (c : Code) (x : Context)
    → x.met + turns_met w.size x.met c ≤ 1 + 10 ^ 15 → (g a : ℕ)
    → most_of ((at_end w parts x c).so_far g a)
    ≤ most_of (x.so_far g a) + code_size c * (1 + 10 ^ 15)
end_count w parts Stop x h g a = omega arith
end_count w parts (Then op rest) x h g a =
    let one = one_put w parts x op g a in
    let more = end_count w parts rest (after_op w parts x op) h g a in
    omega (arith, one, more, h)
end_count w parts (Each table r body rest) x h g a =
    let inner = in_scan w x table r in
    let room : x.met + (x.met * w.size table + turns_met w.size (x.met * w.size table) body
    + turns_met w.size x.met rest) ≤ 1 + 10 ^ 15 = h in
    let inside = end_count w parts body inner (omega (arith, room)) g a in
    let more = end_count w parts rest (after_scan x (at_end w parts inner body))
    (omega (arith, room)) g a in
    omega (arith, inside, more)

-- ---- a whole program

placed : {A : Type 0} (n m : ℕ) (o : Option A) (v : A) → at_position n o ≡ Some (m, v) → o ≡ Some v
placed n m None v e = absurd (cc)
placed n m (Some u) v e = ap (option_map (λ p. p.1)) e

module _ (w : World) (parts : Parts)
    (bounds : (c : ColumnId) → is_text c ≡ false → FitsI64 (w.bounds c)) where
  told : (c : Code) (pending : ℕ → Bool) (at : ℕ) (x : Context) → Fits parts x → AllNameI64 c
      → x.met + turns_met w.size x.met c ≤ 1 + 10 ^ 15
      → ((g a : ℕ) → most_of (x.so_far g a) + code_size c * (1 + 10 ^ 15) ≤ 4096 * (1 + 10 ^ 15))
      → (n : ℕ) (r : Range) (columns : List Reached)
      → first_reason w parts pending x at c ≡ Some (n, Overflow r.low r.high columns) → Wide r
  told Stop pending at x fits named met many n r columns e = absurd (cc)
  told (Then op rest) pending at x fits named met many n r columns e =
      let here = op_reason w parts (open_with pending rest) x op in
      let counts : Counts x = record {
        met = omega (arith, met);
        many = λ g a. let h = many g a in omega (arith, h);
      } in
      ⊎_elim
      (λ h. op_told w parts (open_with pending rest) x op r columns fits counts named.0 bounds
      (placed at n here (Overflow r.low r.high columns) h))
      (λ h. told rest pending (at + 1) (after_op w parts x op)
      (op_fits w parts (open_with pending rest) x op fits (at_position_none at _ h.0))
      named.1 met
      (λ g a. let one = one_put w parts x op g a in
      let room = many g a in omega (arith, one, room, met)) n r columns h.1)
      (either_first (at_position at here) _ (n, Overflow r.low r.high columns) e)
  told (Each table q body rest) pending at x fits named met many n r columns e =
      let inner = in_scan w x table q in
      let within = open_with pending (Each table q body rest) in
      let room : x.met + (x.met * w.size table + turns_met w.size (x.met * w.size table) body
      + turns_met w.size x.met rest) ≤ 1 + 10 ^ 15 = met in
      ⊎_elim
      (λ h. absurd (faulty_no_range _ r columns
      (placed at n (scan_reason parts x q) (Overflow r.low r.high columns) h)))
      (λ h. ⊎_elim
      (λ k. told body within (at + 1) inner (in_fits w parts x table q fits) named.0
      (omega (arith, room))
      (λ g a. let b = many g a in omega (arith, b)) n r columns k)
      (λ k. told rest pending (at + 1 + code_size body) (after_scan x (at_end w parts inner body))
      (past_fits parts x (at_end w parts inner body) fits
      (end_fits w parts body within (at + 1) inner (in_fits w parts x table q fits) k.0))
      named.1 (omega (arith, room))
      (λ g a. let b = many g a in
      let inside = end_count w parts body inner (omega (arith, room)) g a in
      omega (arith, b, inside)) n r columns k.1)
      (either_first (first_reason w parts within inner (at + 1) body) _
      (n, Overflow r.low r.high columns) h.1))
      (either_first (at_position at (scan_reason parts x q)) _ (n, Overflow r.low r.high columns) e)

pub refused_instruction : (w : World) (most : ℕ) (parts : Parts) (refused : ℕ × Reason)
    → first_refusal w most parts ≡ Some (Refused refused) → (quote w.size parts ≤ most)
    × (first_answer (reason_of w parts) (instructions_of w parts) ≡ Some refused)
refused_instruction w most parts refused e =
    grind (arith, common_steps, ⊎_elim, leb-true, either_first)

pub told_bounds_fit : (w : World) (most : ℕ) (parts : Parts) (at : ℕ) (r : Range)
    (columns : List Reached) → IsWithinLimits parts → most ≤ 10 ^ 15 → AreI64 w parts
    → first_refusal w most parts ≡ Some (Refused (at, Overflow r.low r.high columns)) → FitsI128 r
told_bounds_fit w most parts at r columns limits few are e =
    let p = refused_instruction w most parts (at, Overflow r.low r.high columns) e in
    let size : code_size parts.body * (1 + 10 ^ 15) ≤ 4096 * (1 + 10 ^ 15) =
    mul-le-mul_right (1 + 10 ^ 15) limits.instructions in
    small_fits (2 ^ 126) r (lit< tt)
    (told w parts are.bounds parts.body none_open 1 at_first (first_fits parts) are.named
    (omega (arith, p.0, few)) (λ g a. omega (arith, size)) at r columns
    (first_standing w parts ∙ p.1))
