-- Registers in a list.
use Rattle.std.proofs.Common.{◌≡◌, ℕ, ◌<◌, List, [], ◌∷◌, zero, suc, length, Some, ⊎_elim, refl, arith}
use Rattle.star_verify.proofs.Common.{Known, Register, eqb_tells, get_or-set_other, get_or-set_same, kind_known, kinds_known, known_in, known_view, register_kinds, slice_set, with_entry}

known_set_at : (xs : List Register) (t : ℕ) (k : Known) (r : ℕ) → t < length xs
    → known_in (slice_set xs t (record { known = Some k })) r
    ≡ with_entry (known_in xs) t (known_view k) r
known_set_at xs t k r h = grind (arith, ⊎_elim, get_or-set_same, get_or-set_other, eqb_tells)

-- a register that is written
pub known_set : (xs : List Register) (t : ℕ) (k : Known) → t < length xs
    → known_in (slice_set xs t (record { known = Some k }))
    ≡ with_entry (known_in xs) t (known_view k)
known_set xs t k h = λ i r. known_set_at xs t k r h i

kind_at : (xs : List Register) (r : ℕ)
    → register_kinds kind_known xs r ≡ kinds_known (known_in xs) r
kind_at [] r = refl
kind_at (x ∷ xs) zero = refl
kind_at (x ∷ xs) (suc r) = kind_at xs r

-- the kinds of registers are those of what is known of them
pub same_kinds : (xs : List Register) → register_kinds kind_known xs ≡ kinds_known (known_in xs)
same_kinds xs = λ i r. kind_at xs r i
