-- A text that grows by a part for each element of a list.
use Rattle.std.{proofs.Common.{◌≡◌, ◌+◌, ◌≤◌, ℕ, List, [], ◌++◌, Some, append_assoc, drop, length, sym, ◌∙◌}, specs.List.{flat_map, slice_get}, proofs.lemmas.List.{append-nil, drop_all}}
use Rattle.star_common.proofs.Lists.{drop_at_index}

-- the parts from a position on are still to come
abbrev pub HasGrown : {X : Type 0} → (X → List ℕ) → List X → ℕ → List ℕ → List ℕ → Type 0
HasGrown part xs i old text = text ++ flat_map part (drop i xs) ≡ old ++ flat_map part xs

pub one_more : {X : Type 0} (part : X → List ℕ) (xs : List X) (i : ℕ) (x : X) (old text : List ℕ)
    → slice_get xs i ≡ Some x → HasGrown part xs i old text
    → HasGrown part xs (i + 1) old (text ++ part x)
one_more part xs i x old text at h =
    append_assoc text (part x) _ ∙ rw (drop_at_index xs i x at) at h

pub all_parts : {X : Type 0} (part : X → List ℕ) (xs : List X) (i : ℕ) (old text : List ℕ)
    → length xs ≤ i → HasGrown part xs i old text → text ≡ old ++ flat_map part xs
all_parts part xs i old text past h = let none : drop i xs ≡ [] =
    drop_all i xs past in sym (append-nil text) ∙ rw none at h
