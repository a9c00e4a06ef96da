-- Rows in flat storage.
use Rattle.std.specs.Prelude.{ℕ, zero, suc, List, [], ◌∷◌, take, drop}

-- `count` rows of `width` items each in one list
unfoldable pub cut : {A : Type 0} → ℕ → ℕ → List A → List (List A)
cut width zero items = []
cut width (suc count) items = take width items ∷ cut width count (drop width items)
