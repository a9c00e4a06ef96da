-- Registers that are written.
use Rattle.std.proofs.{Common.{◌≡◌, ◌<◌, ℕ, Bool, true, false, List, length, ⊎_elim, refl, arith}, lemmas.Grind.common_steps}
use Rattle.star_verify.proofs.{Common.{flag_at, get_or-set_other, get_or-set_same, nat_eq, slice_set, ◌||◌}, Marks.or_none}

or_all : (a : Bool) → a || true ≡ true
or_all true = refl
or_all false = refl

written_at : (xs : List Bool) (t q : ℕ) → t < length xs
    → flag_at (slice_set xs t true) q ≡ flag_at xs q || nat_eq t q
written_at xs t q h =
    grind (arith, common_steps, ⊎_elim, flag_at, get_or-set_same, or_all, get_or-set_other, or_none)

pub written_more : (xs : List Bool) (t : ℕ) → t < length xs
    → flag_at (slice_set xs t true) ≡ (λ q. flag_at xs q || nat_eq t q)
written_more xs t h = λ i q. written_at xs t q h i
