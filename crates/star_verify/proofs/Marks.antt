-- Groups that are marked, one after another.
use Rattle.std.proofs.{Common.{◌≡◌, ◌<◌, ℕ, Bool, true, false, List, length, get_or, ap, sym, ◌∙◌, ⊎_elim, refl, arith}, lemmas.Grind.common_steps}
use Rattle.star_verify.proofs.Common.{get_or-set_other, get_or-set_same, nat_eq, slice_set, ◌||◌}

pub or_none : (a : Bool) → a || false ≡ a
or_none true = refl
or_none false = refl

or_all : (a : Bool) → a || true ≡ true
or_all true = refl
or_all false = refl

pub or_assoc : (a b c : Bool) → (a || b) || c ≡ a || (b || c)
or_assoc true b c = refl
or_assoc false b c = refl

pub marked_at : (xs : List Bool) (t g : ℕ) → t < length xs
    → get_or (slice_set xs t true) g false ≡ get_or xs g false || nat_eq g t
marked_at xs t g h =
    grind (arith, common_steps, ⊎_elim, get_or-set_same, or_all, get_or-set_other, or_none)

-- one more step
pub marked_more : (now old op rest left all : Bool) → now ≡ old || op → left ≡ op || rest
    → old || left ≡ all → now || rest ≡ all
marked_more now old op rest left all e f h =
    ap (λ b. b || rest) e ∙ or_assoc old op rest ∙ sym (ap (λ b. old || b) f) ∙ h
