use Rattle.std.proofs.{Common.{◌≡◌, ◌+◌, ◌-◌, ◌*◌, ◌/◌, ◌^◌, ◌<◌, ◌≤◌, ◌∙◌, ℕ, zero, suc, Bool, true, false, List, [], ◌∷◌, ap, arith, cond, div-one, drop, length, length-drop, map, mul_comm, pow-suc, sym, take}, lemmas.List.{drop-drop, take_all}, lemmas.Simd.{leading_from_mask_l, trailing_mask_l}}
use native.Mathlib.Nat.{div-div-eq-div-mul, zero-div}
use lib.Count.{count_trailing_zeros}
use lib.Lanes.{mask_l}
use Rattle.star_reader.specs.Private.Fronts.{IsEndOf, is_stop}
use Rattle.star_reader.proofs.front.near_end.Goals as goal

half : (b : Bool) (n : ℕ) → (cond b 1 0 + 2 * n) / 2 ≡ n
half true n = omega arith
half false n = omega arith

-- a mask that is shifted loses its first lanes
shifted : {X : Type 0} (p : X → Bool) (xs : List X) (k : ℕ)
    → mask_l (map p xs) / 2 ^ k ≡ mask_l (map p (drop k xs))
shifted p xs zero = div-one (mask_l (map p xs))
shifted p [] (suc k) = zero-div (2 ^ suc k)
shifted p (x ∷ xs) (suc k) =
    ap (λ n. mask_l (map p (x ∷ xs)) / n) (pow-suc 2 k ∙ mul_comm (2 ^ k) 2)
    ∙ sym (div-div-eq-div-mul (mask_l (map p (x ∷ xs))) 2 (2 ^ k))
    ∙ ap (λ n. n / 2 ^ k) (half (p x) (mask_l (map p xs)))
    ∙ shifted p xs k

-- what is left of the last 16 bytes of a line is a text at its end
last_left : (line text : List ℕ) → IsEndOf line text → 16 ≤ length line → length text ≤ 16
    → drop (16 - length text) (take 16 (drop (length line - 16) line)) ≡ text
last_left line text end room few =
    let all : length text ≡ length line - end.at =
    ap length end.is ∙ length-drop end.at line in
    let last : length (drop (length line - 16) line) ≤ 16 =
    omega (arith, room, length-drop (length line - 16) line) in
    let at : length line - 16 + (16 - length text) ≡ end.at =
    omega (arith, room, few, all, end.within) in
    ap (drop (16 - length text)) (take_all 16 (drop (length line - 16) line) last)
    ∙ drop-drop (16 - length text) (length line - 16) line
    ∙ ap (λ n. drop n line) at ∙ sym end.is

-- the mask of what is left
mask_left : (line text : List ℕ) (stops : ℕ) → IsEndOf line text → 16 ≤ length line
    → length text ≤ 16 → stops ≡ mask_l (map is_stop (take 16 (drop (length line - 16) line)))
    → stops / 2 ^ (16 - length text) ≡ mask_l (map is_stop text)
mask_left line text stops end room few is =
    ap (λ n. n / 2 ^ (16 - length text)) is
    ∙ shifted is_stop (take 16 (drop (length line - 16) line)) (16 - length text)
    ∙ ap (λ bytes. mask_l (map is_stop bytes)) (last_left line text end room few)

positive : (m n : ℕ) → (m ≡ 0 → ⊥) → m ≡ n → 0 < n
positive m n some same = omega (arith, some, same)

pub returns-then-left-eq0 : goal.returns-then-left-eq0
returns-then-left-eq0 c =
    let is = mask_left c.args.line.now c.args.text.now c.stops-last.result c.requires.end
    c.requires.room c.requires.few c.stops-last.ensures in
    sym (leading_from_mask_l is_stop c.args.text.now (sym is ∙ c.if-left-eq0.true))

pub returns-else-left-eq0 : goal.returns-else-left-eq0
returns-else-left-eq0 c =
    let is = mask_left c.args.line.now c.args.text.now c.stops-last.result c.requires.end
    c.requires.room c.requires.few c.stops-last.ensures in
    ap (count_trailing_zeros 64) is
    ∙ trailing_mask_l is_stop 64 c.args.text.now (omega (arith, c.requires.few))
    (positive _ _ c.if-left-eq0.false is)
