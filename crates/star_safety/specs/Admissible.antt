-- Admissible programs, and the first refusal of any other.
use Rattle.std.specs.{Prelude.{◌≡◌, ℕ, nat_le, Bool, true, false, All, Option, Some, None}, Option.{option_map, option_or}}
use Rattle.star_common.specs.First.{first_answer}
use Rattle.star_program.specs.{declared.program.Parts.Parts, World.World, ShowLines.shown_fault}
use Rattle.star_safety.specs.{Quote.quote, Standing.instructions_of, Standing.reason_of, declared.reason.Reason.Reason}

-- no instruction has a reason to be refused in its context, and the report names only declared
-- columns
pub record IsAdmissible (w : World) (parts : Parts) : Type 0 where
  pub instructions : All (λ i. reason_of w parts i ≡ None) (instructions_of w parts)
  pub report : shown_fault parts ≡ None

pub data Refusal : Type 0 where
  -- the quote exceeds the limit
  TooCostly : ℕ → Refusal
  -- an instruction, by its number
  Refused : ℕ × Reason → Refusal
  -- a line of the report: 0 if its group is not declared or nothing is shown, otherwise its number
  -- among the show lines followed by the sort lines
  BadShow : ℕ → Refusal

abbrev pub cost_refusal : ℕ → Bool → Option Refusal
cost_refusal visits true = None
cost_refusal visits false = Some (TooCostly visits)

-- the first refusal of a program if `most` visits are allowed
abbrev pub first_refusal : World → ℕ → Parts → Option Refusal
first_refusal w most parts =
    option_or (cost_refusal (quote w.size parts) (nat_le (quote w.size parts) most))
    (option_or (option_map Refused (first_answer (reason_of w parts) (instructions_of w parts)))
    (option_map BadShow (shown_fault parts)))
