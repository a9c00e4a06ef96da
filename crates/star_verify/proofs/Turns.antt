-- The turns of a scan and of what follows it.
use Rattle.std.proofs.Common.{◌≡◌, ◌<◌, ◌≤◌, ◌+◌, ◌*◌, ◌^◌, ℕ, arith, subst}
use Rattle.star_verify.proofs.Common.{Code, Each, TableId, body_nested, met_within, rest_nested, scan_depth, turns_met}

pub inner : (times size : ℕ) (table : TableId) (r : ℕ) (body rest left : Code)
    → left ≡ Each table r body rest → size < 2 ^ 32 → times * (2 ^ 32) ^ scan_depth left ≤ 2 ^ 96
    → times * size * (2 ^ 32) ^ scan_depth body ≤ 2 ^ 96
inner times size table r body rest left code small deep =
    body_nested (2 ^ 32) (2 ^ 96) times size table r body rest small
    (subst (λ k. times * (2 ^ 32) ^ scan_depth k ≤ 2 ^ 96) code deep)

pub outer : (times : ℕ) (table : TableId) (r : ℕ) (body rest left : Code)
    → left ≡ Each table r body rest → times * (2 ^ 32) ^ scan_depth left ≤ 2 ^ 96
    → times * (2 ^ 32) ^ scan_depth rest ≤ 2 ^ 96
outer times table r body rest left code deep =
    rest_nested (2 ^ 32) (2 ^ 96) times table r body rest (omega arith)
    (subst (λ k. times * (2 ^ 32) ^ scan_depth k ≤ 2 ^ 96) code deep)

pub often : (met depth : ℕ) → met * (2 ^ 32) ^ depth ≤ 2 ^ 96 → met ≤ 2 ^ 96
often met depth deep = met_within (2 ^ 32) (2 ^ 96) met depth (omega arith) deep

-- the turns of what is left, by those of a scan and its body
pub scan_turns : (size_of : TableId → ℕ) (times size deeper : ℕ) (table : TableId) (r : ℕ)
    (body rest left : Code) → left ≡ Each table r body rest → size ≡ size_of table
    → deeper ≡ turns_met size_of (times * size) body
    → turns_met size_of times left ≡ times * size + deeper + turns_met size_of times rest
scan_turns size_of times size deeper table r body rest left code is below = grind arith

pub scan_sum : (total now turns deeper rest left all : ℕ) → now ≡ total + (turns + deeper)
    → left ≡ turns + deeper + rest → total + left ≡ all → now + rest ≡ all
scan_sum total now turns deeper rest left all e f g = omega (arith, e, f, g)

pub scan_bound : (total now turns deeper body rest left all : ℕ) → now ≡ total + (turns + deeper)
    → left ≡ 1 + body + rest → turns ≤ 2 ^ 96 → deeper ≤ body * 2 ^ 96
    → total + left * 2 ^ 96 ≤ all * 2 ^ 96 → now + rest * 2 ^ 96 ≤ all * 2 ^ 96
scan_bound total now turns deeper body rest left all e f g h i = omega (arith, e, f, g, h, i)
