-- What is so of an instruction with which nothing is wrong by its kinds.
use Rattle.std.proofs.Common.{◌≡◌, ℕ, Bool, false, Option, Some, None, refl}
use Rattle.star_verify.proofs.{Common.{Fault, Faulty, false, option_map, ◌||◌}, Marks.{or_none as none_or}}

pub no_fault : (o : Option Fault) → option_map Faulty o ≡ None → o ≡ None
no_fault None e = refl
no_fault (Some fault) e = absurd (cc)

-- a register that is no target is written where it was
pub written_same : (written : ℕ → Bool) → (λ (q : ℕ). written q || false) ≡ written
written_same written = λ i q. none_or (written q) i
