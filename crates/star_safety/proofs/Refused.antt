-- What refuses a program, if anything does.
use Rattle.std.proofs.{Common.{◌≡◌, ℕ, ◌≤◌, Bool, true, false, None, refl, arith}, lemmas.Grind.common_steps}
use Rattle.star_safety.proofs.{Common.{IsAdmissible, Parts, World, all_without_answer, cost_refusal, first_answer_none, first_refusal, le-leb, or_none, quote}, Instructions.both_none}

cheap : (visits : ℕ) (b : Bool) → cost_refusal visits b ≡ None → b ≡ true
cheap visits true e = refl
cheap visits false e = absurd (cc)

pub is_admissible : (w : World) (most : ℕ) (parts : Parts) → first_refusal w most parts ≡ None
    → IsAdmissible w parts × (quote w.size parts ≤ most)
is_admissible w most parts e = grind (arith, common_steps, or_none, all_without_answer)

pub not_refused : (w : World) (most : ℕ) (parts : Parts)
    → IsAdmissible w parts × (quote w.size parts ≤ most) → first_refusal w most parts ≡ None
not_refused w most parts h = grind (arith, common_steps, both_none, le-leb, first_answer_none)
