-- How large a step and the steps after it are, and how deep their scans stand one in another.
use Rattle.std.{proofs.Common.{◌≡◌, ◌≤◌, ◌+◌, ℕ, List, Some, drop, arith}, specs.Prelude.{nat_lt, if◌then◌else◌}, specs.List.slice_get}
use Rattle.star_common.proofs.Lists.{drop_at_index}
use Rattle.star_program.specs.{Code.Code, Code.code_size, Code.scan_depth, CodeOfSteps.before, CodeOfSteps.code_of_steps, Private.Followed.code_of_step, declared.body.Step.Step, declared.body.Step.TheVariants.Act, declared.body.Step.TheVariants.Scan}

at_least : (a b : ℕ) → b ≤ (if nat_lt a b then b else a)
at_least a b = grind arith

rest_depth : (step : Step) (rest : Code) → scan_depth rest ≤ scan_depth (before step rest)
rest_depth (Act op) rest = omega arith
rest_depth (Scan table target body) rest = at_least (1 + scan_depth body) (scan_depth rest)

-- the steps after a step stand no deeper
pub rest_nested : (depth : ℕ) (steps : List Step) (i : ℕ) (step : Step)
    → slice_get steps i ≡ Some step → depth + scan_depth (code_of_steps (drop i steps)) ≤ 3
    → depth + scan_depth (code_of_steps (drop (i + 1) steps)) ≤ 3
rest_nested depth steps i step at h = grind (arith, drop_at_index, rest_depth)

-- a step and the steps after it are no larger than the steps from it on
pub step_small : (size : ℕ) (steps : List Step) (i : ℕ) (step : Step)
    → slice_get steps i ≡ Some step → code_size (code_of_steps (drop i steps)) ≤ size
    → (code_size (code_of_step step) ≤ size)
    × (code_size (code_of_steps (drop (i + 1) steps)) ≤ size)
step_small size steps i step at h = grind (arith, drop_at_index)

-- the larger of two is within what both are within
abbrev pub larger : ℕ → ℕ → ℕ
larger a b = if nat_lt a b then b else a

pub left_within : (a b k : ℕ) → larger a b ≤ k → a ≤ k
left_within a b k h = grind arith

pub right_within : (a b k : ℕ) → larger a b ≤ k → b ≤ k
right_within a b k h = grind arith

pub both_within : (a b k : ℕ) → a ≤ k → b ≤ k → larger a b ≤ k
both_within a b k h g = grind arith
