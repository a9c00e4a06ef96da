-- Lists of the code, and what definitions see of their elements.
use Rattle.std.{proofs.Common.{◌≡◌, ◌∙◌, sym, ap, ℕ, zero, suc, ◌+◌, ◌<◌, ◌≤◌, ◌||◌, Bool, List, [], ◌∷◌, ◌++◌, Option, Some, None, Result, cond, not, drop, take, get_or, length, map, arith, append_assoc, append-nil, refl}, specs.List.{list_any, position, position_or_len}, specs.Option.option_or, specs.Result.{IsErrAnd, result_err}, proofs.lemmas.List.{at_drop_all, length-map}}
use Rattle.star_common.specs.First.{first_answer}
use Rattle.star_plan.{specs.declared.fault.PlanFault.PlanFault, specs.First.{first_after, first_beside}, proofs.Exits.error_is}

-- ---- which of them

pub any_viewed : {X Y : Type 0} (v : X → Y) (p : Y → Bool) (xs : List X)
    → list_any (λ x. p (v x)) xs ≡ list_any p (map v xs)
any_viewed v p [] = refl
any_viewed v p (x ∷ xs) = ap (λ rest. p (v x) || rest) (any_viewed v p xs)

index_or_length : {X Y : Type 0} (v : X → Y) (p : Y → Bool) (xs : List X)
    → position_or_len (λ x. p (v x)) xs ≡ position_or_len p (map v xs)
index_or_length v p [] = refl
index_or_length v p (x ∷ xs) = ap (λ n. cond (not (p (v x))) (1 + n) 0) (index_or_length v p xs)

pub place_viewed : {X Y : Type 0} (v : X → Y) (p : Y → Bool) (xs : List X)
    → position (λ x. p (v x)) xs ≡ position p (map v xs)
place_viewed v p xs = rw (← index_or_length v p xs, length-map xs v) refl

-- ---- the first answer of an element

-- a loop that has passed the elements before this one
abbrev pub AnswerSoFar : {X Y A : Type 0} (v : X → Y) (f : Y → Option A) → List X → ℕ → Type 0
AnswerSoFar v f xs i = first_answer f (map v (drop i xs)) ≡ first_answer f (map v xs)

answer_here : {X Y A : Type 0} (v : X → Y) (f : Y → Option A) (xs : List X) (i : ℕ) (d : X)
    → i < length xs → first_answer f (map v (drop i xs))
    ≡ option_or (f (v (get_or xs i d))) (first_answer f (map v (drop (i + 1) xs)))
unfolding first_answer
answer_here v f [] i d within = absurd (omega arith)
answer_here v f (x ∷ xs) zero d within = refl
answer_here v f (x ∷ xs) (suc i) d within = let next : suc i + 1 ≡ suc (i + 1) = omega arith in
    rw next (answer_here v f xs i d (omega arith))

pub answer_passed : {X Y A : Type 0} (v : X → Y) (f : Y → Option A) (xs : List X) (i : ℕ) (d : X)
    → i < length xs → AnswerSoFar v f xs i → None ≡ f (v (get_or xs i d))
    → first_answer f (map v (drop (i + 1) xs)) ≡ first_answer f (map v xs)
answer_passed v f xs i d within so_far passed =
    let here : first_answer f (map v (drop i xs))
    ≡ option_or (f (v (get_or xs i d))) (first_answer f (map v (drop (i + 1) xs))) =
    answer_here v f xs i d within in
    sym (rw (← passed) at here) ∙ so_far

pub answer_whole : {X Y A : Type 0} (v : X → Y) (f : Y → Option A) (xs : List X) (i : ℕ)
    → length xs ≤ i → first_answer f (map v (drop i xs)) ≡ first_answer f (map v xs)
    → None ≡ first_answer f (map v xs)
unfolding first_answer
answer_whole v f xs i past so_far =
    sym (at_drop_all (λ ys. first_answer f (map v ys)) xs i past) ∙ so_far

-- the exit of a loop at the first fault, where the element is a copy
pub answer_of_copy : {X Y T : Type 0} (v : X → Y) (f : Y → Option PlanFault) (xs : List X) (i : ℕ)
    (d : X) (e : PlanFault) (r : Result T PlanFault) → IsErrAnd r (λ y. y ≡ e) → i < length xs
    → AnswerSoFar v f xs i → Some e ≡ f (v (get_or xs i d))
    → result_err r ≡ first_answer f (map v xs)
answer_of_copy v f xs i d e r is_e within so_far found =
    let here : first_answer f (map v (drop i xs))
    ≡ option_or (f (v (get_or xs i d))) (first_answer f (map v (drop (i + 1) xs))) =
    answer_here v f xs i d within in
    error_is r e is_e ∙ sym (rw (← found) at here) ∙ so_far

-- and where it is given by itself
pub answer_found : {X Y T : Type 0} (v : X → Y) (f : Y → Option PlanFault) (xs : List X) (i : ℕ)
    (x : X) (e : PlanFault) (r : Result T PlanFault) → IsErrAnd r (λ y. y ≡ e) → i < length xs
    → AnswerSoFar v f xs i → x ≡ get_or xs i x → Some e ≡ f (v x)
    → result_err r ≡ first_answer f (map v xs)
answer_found v f xs i x e r is_e within so_far at found =
    answer_of_copy v f xs i x e r is_e within so_far (found ∙ ap (λ y. f (v y)) at)

-- ---- beside the elements before it

-- a loop that has passed the elements before this one
abbrev pub BesideSoFar : {X Y A : Type 0} (v : X → Y) (f : List Y → Y → Option A) → List X → ℕ
    → Type 0
BesideSoFar v f xs i =
    first_after f (map v (take i xs)) (map v (drop i xs)) ≡ first_beside f (map v xs)

after_here : {X Y A : Type 0} (v : X → Y) (f : List Y → Y → Option A) (before : List Y)
    (xs : List X) (i : ℕ) (d : X) → i < length xs
    → first_after f (before ++ map v (take i xs)) (map v (drop i xs))
    ≡ option_or (f (before ++ map v (take i xs)) (v (get_or xs i d)))
    (first_after f (before ++ map v (take (i + 1) xs)) (map v (drop (i + 1) xs)))
after_here v f before [] i d within = absurd (omega arith)
after_here v f before (x ∷ xs) zero d within = rw append-nil refl
after_here v f before (x ∷ xs) (suc i) d within =
    grind (arith, after_here v f (before ++ v x ∷ []) xs i d (omega arith), append_assoc)

beside_here : {X Y A : Type 0} (v : X → Y) (f : List Y → Y → Option A) (xs : List X) (i : ℕ) (d : X)
    → i < length xs → first_after f (map v (take i xs)) (map v (drop i xs))
    ≡ option_or (f (map v (take i xs)) (v (get_or xs i d)))
    (first_after f (map v (take (i + 1) xs)) (map v (drop (i + 1) xs)))
beside_here v f xs i d within = after_here v f [] xs i d within

pub beside_passed : {X Y A : Type 0} (v : X → Y) (f : List Y → Y → Option A) (xs : List X) (i : ℕ)
    (d : X) → i < length xs → BesideSoFar v f xs i
    → None ≡ f (map v (take i xs)) (v (get_or xs i d))
    → first_after f (map v (take (i + 1) xs)) (map v (drop (i + 1) xs)) ≡ first_beside f (map v xs)
beside_passed v f xs i d within so_far passed =
    sym (rw (← passed) at (beside_here v f xs i d within)) ∙ so_far

pub beside_whole : {X Y A : Type 0} (v : X → Y) (f : List Y → Y → Option A) (xs : List X) (i : ℕ)
    → length xs ≤ i → first_after f (map v (take i xs)) (map v (drop i xs))
    ≡ first_beside f (map v xs) → None ≡ first_beside f (map v xs)
beside_whole v f xs i past so_far =
    sym (at_drop_all (λ ys. first_after f (map v (take i xs)) (map v ys)) xs i past) ∙ so_far

-- the exit of a loop at the first fault, where the element is a copy
pub beside_of_copy : {X Y T : Type 0} (v : X → Y) (f : List Y → Y → Option PlanFault) (xs : List X)
    (i : ℕ) (d : X) (e : PlanFault) (r : Result T PlanFault) → IsErrAnd r (λ y. y ≡ e)
    → i < length xs → BesideSoFar v f xs i → Some e ≡ f (map v (take i xs)) (v (get_or xs i d))
    → result_err r ≡ first_beside f (map v xs)
beside_of_copy v f xs i d e r is_e within so_far found =
    error_is r e is_e ∙ sym (rw (← found) at (beside_here v f xs i d within)) ∙ so_far

-- and where it is given by itself
pub beside_found : {X Y T : Type 0} (v : X → Y) (f : List Y → Y → Option PlanFault) (xs : List X)
    (i : ℕ) (x : X) (e : PlanFault) (r : Result T PlanFault) → IsErrAnd r (λ y. y ≡ e)
    → i < length xs → BesideSoFar v f xs i → x ≡ get_or xs i x
    → Some e ≡ f (map v (take i xs)) (v x) → result_err r ≡ first_beside f (map v xs)
beside_found v f xs i x e r is_e within so_far at found =
    beside_of_copy v f xs i x e r is_e within so_far
    (found ∙ ap (λ y. f (map v (take i xs)) (v y)) at)
