-- The first result among some elements.
use Rattle.std.specs.{Prelude.{List, [], ◌∷◌, Option, None}, Option.option_or}

-- the result of the first element that has one
unfoldable pub first_answer : {X A : Type 0} → (X → Option A) → List X → Option A
first_answer f [] = None
first_answer f (x ∷ xs) = option_or (f x) (first_answer f xs)
