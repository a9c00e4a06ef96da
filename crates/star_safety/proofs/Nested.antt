-- How often an instruction is met where few scans stand one in another.
use Rattle.std.proofs.{Common.{◌≡◌, ◌<◌, ◌≤◌, ◌+◌, ◌*◌, ◌^◌, ℕ, suc, Bool, true, false, arith, refl}, lemmas.Grind.common_steps}
use Rattle.star_safety.proofs.Common.{Code, Decides-ltb, Each, TableId, if◌then◌else◌, ltb-false, mul-le-mul_left, mul-le-mul_right, mul_assoc, nat_lt, one-le-pow, pow-le-pow_right, pow-succ', scan_depth}

pub deeper_left : (b : Bool) (m n k : ℕ) → nat_lt m n ≡ b → (if b then n else m) ≤ k → m ≤ k
deeper_left true m n k e h = let lt : m < n = (Decides-ltb m n).0 e in omega (arith, lt, h)
deeper_left false m n k e h = h

pub deeper_right : (b : Bool) (m n k : ℕ) → nat_lt m n ≡ b → (if b then n else m) ≤ k → n ≤ k
deeper_right true m n k e h = h
deeper_right false m n k e h = let le : n ≤ m = ltb-false m n e in omega (arith, le, h)

-- how often something is met in a scan of a table of few rows, where one scan fewer may stand in it
scanned : (base most times size n : ℕ) → size < base → times * base ^ suc n ≤ most
    → times * size * base ^ n ≤ most
scanned base most times size n small h =
    grind (arith, common_steps, mul-le-mul_left, mul-le-mul_right, pow-succ', mul_assoc)

shallower : (base most times m n : ℕ) → 0 < base → m ≤ n → times * base ^ n ≤ most
    → times * base ^ m ≤ most
shallower base most times m n some fewer h =
    grind (arith, common_steps, mul-le-mul_left, pow-le-pow_right)

pub body_nested : (base most times size : ℕ) (table : TableId) (r : ℕ) (body rest : Code)
    → size < base → times * base ^ scan_depth (Each table r body rest) ≤ most
    → times * size * base ^ scan_depth body ≤ most
body_nested base most times size table r body rest small h =
    let depth : 1 + scan_depth body ≤ scan_depth (Each table r body rest) =
    deeper_left (nat_lt (1 + scan_depth body) (scan_depth rest)) (1 + scan_depth body)
    (scan_depth rest) (scan_depth (Each table r body rest)) refl (omega arith) in
    scanned base most times size (scan_depth body) small
    (shallower base most times (suc (scan_depth body)) (scan_depth (Each table r body rest))
    (omega (arith, small)) (omega (arith, depth)) h)

pub rest_nested : (base most times : ℕ) (table : TableId) (r : ℕ) (body rest : Code)
    → 0 < base → times * base ^ scan_depth (Each table r body rest) ≤ most
    → times * base ^ scan_depth rest ≤ most
rest_nested base most times table r body rest some h =
    shallower base most times (scan_depth rest) (scan_depth (Each table r body rest)) some
    (deeper_right (nat_lt (1 + scan_depth body) (scan_depth rest)) (1 + scan_depth body)
    (scan_depth rest) (scan_depth (Each table r body rest)) refl (omega arith)) h

-- it is met no more often than that
pub met_within : (base most times n : ℕ) → 0 < base → times * base ^ n ≤ most → times ≤ most
met_within base most times n some h = grind (arith, common_steps, mul-le-mul_left, one-le-pow)
