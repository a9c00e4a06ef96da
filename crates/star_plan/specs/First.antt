-- The first fault that there is.
use Rattle.std.specs.{Prelude.{List, [], ◌∷◌, ◌++◌, Option, None}, Option.option_or}

-- the first answer of an element, each asked together with those before it
abbrev pub first_after : {X A : Type 0} → (List X → X → Option A) → List X → List X → Option A
first_after f before [] = None
first_after f before (x ∷ xs) = option_or (f before x) (first_after f (before ++ x ∷ []) xs)

abbrev pub first_beside : {X A : Type 0} → (List X → X → Option A) → List X → Option A
first_beside f xs = first_after f [] xs
