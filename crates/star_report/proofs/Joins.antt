-- Fields in a row, with a byte between each two.
use Rattle.std.{proofs.Common.{◌≡◌, ◌≤◌, ◌++◌, ◌-◌, ℕ, List, [], ◌∷◌, ap, arith, drop, get_or, length, map, sym, take}, specs.List.{flat_map, join_with_byte}, proofs.lemmas.List.append-nil}
use Rattle.star_common.proofs.Sends.{rest_of}

-- the first, and each other one after the byte
join_with_byte-cons : {X : Type 0} (b : ℕ) (printed : X → List ℕ) (first : X) (others : List X)
    → join_with_byte b (map printed (first ∷ others))
    ≡ printed first ++ flat_map (λ x. b ∷ printed x) others
join_with_byte-cons b printed first [] = sym (append-nil (printed first))
join_with_byte-cons b printed first (x ∷ others) =
    ap (λ rest. printed first ++ b ∷ rest) (join_with_byte-cons b printed x others)

-- the same, where the code took the first and the others apart
pub join_from_parts : {X : Type 0} (b : ℕ) (printed : X → List ℕ) (fields : List X) (first : X)
    → 1 ≤ length fields → first ≡ get_or fields 0 first
    → printed first ++ flat_map (λ x. b ∷ printed x) (take (length fields - 1) (drop 1 fields))
    ≡ join_with_byte b (map printed fields)
join_from_parts b printed [] first some at = absurd (omega arith)
join_from_parts b printed (x ∷ xs) first some at =
    rw (rest_of (x ∷ xs) 1, at) (sym (join_with_byte-cons b printed x xs))
