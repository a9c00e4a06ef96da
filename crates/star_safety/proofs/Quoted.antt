-- The visits that a refusal tells fit 128 bits.
use Rattle.std.proofs.{Common.{◌≡◌, ℕ, ◌*◌, ◌^◌, ◌≤◌, ◌<◌, Some, arith, subst}, lemmas.Grind.common_steps}
use Rattle.star_safety.proofs.{Common.{Code, Each, IsWithinLimits, Parts, Stop, TableId, Then, TooCostly, World, code_size, first_refusal, pow-le-pow_right, quote, scan_depth, turns_met}, Nested.{body_nested, rest_nested, met_within}}

module _ (size : TableId → ℕ) (small : (t : TableId) → size t < 2 ^ 32) where
  -- of each instruction, met as often as scans that stand one in another allow
  turns_within : (c : Code) (times : ℕ) → times * (2 ^ 32) ^ scan_depth c ≤ 2 ^ 96
      → turns_met size times c ≤ code_size c * 2 ^ 96
  turns_within Stop times deep = omega arith
  turns_within (Then op rest) times deep =
      let later = turns_within rest times deep in omega (arith, later)
  turns_within (Each table r body rest) times deep =
      let below = body_nested (2 ^ 32) (2 ^ 96) times (size table) table r body rest (small table)
      deep in
      let inside = turns_within body (times * size table) below in
      let turns = met_within (2 ^ 32) (2 ^ 96) (times * size table) (scan_depth body) (omega arith)
      below in
      let later = turns_within rest times
      (rest_nested (2 ^ 32) (2 ^ 96) times table r body rest (omega arith) deep) in
      omega (arith, inside, turns, later)

  quote_within : (parts : Parts) → IsWithinLimits parts → quote size parts < 2 ^ 128
  quote_within parts limits = grind (arith, common_steps, pow-le-pow_right, turns_within)

-- what it tells is the quote
quoted : (w : World) (most : ℕ) (parts : Parts) (visits : ℕ)
    → first_refusal w most parts ≡ Some (TooCostly visits) → quote w.size parts ≡ visits
quoted w most parts visits = grind (arith, common_steps)

pub told_visits_fit : (w : World) (most : ℕ) (parts : Parts) (visits : ℕ) → IsWithinLimits parts
    → ((t : TableId) → w.size t < 2 ^ 32)
    → first_refusal w most parts ≡ Some (TooCostly visits) → visits < 2 ^ 128
told_visits_fit w most parts visits limits small e =
    subst (λ n. n < 2 ^ 128) (quoted w most parts visits e) (quote_within w.size small parts limits)
