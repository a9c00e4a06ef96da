-- Texts that are given by their positions among other texts.
use Rattle.std.specs.{Prelude.{◌<◌, ◌≤◌, ℕ, ℤ, List, [], All, Contains, length, map, slice_index_or}, Int.RustNames.unsigned_abs}

-- positions that are kept as signed numbers
abbrev pub indexes_in : List ℤ → List ℕ
indexes_in numbers = map unsigned_abs numbers

-- the texts at these positions of a list
abbrev pub texts_at_indexes : List (List ℕ) → List ℕ → List (List ℕ)
texts_at_indexes texts indexes = map (λ index. slice_index_or texts index []) indexes

-- the position of each row's text among some texts: each text has a row
pub record AreRepeated (texts : List (List ℕ)) (indexes : List ℕ) : Type 0 where
  pub within : All (λ index. index < length texts) indexes
  pub met : (index : ℕ) → index < length texts → Contains indexes index
  pub few : length texts ≤ length indexes
