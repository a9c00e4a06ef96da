-- Cells in flat storage: a number and a text for each.
use Rattle.std.specs.Prelude.{◌≡◌, ◌≤◌, ℕ, ℤ, List, [], ◌∷◌, length, take}
use Rattle.star_program.specs.declared.outcome.Cell.{Cell, TheVariants.{Number, Text}}

-- a text with a byte is itself; without one, the number is the cell
abbrev pub flat_cell : ℤ → List ℕ → Cell
flat_cell number [] = Number number
flat_cell number (byte ∷ text) = Text (byte ∷ text)

unfoldable pub flat_cells : List ℤ → List (List ℕ) → List Cell
flat_cells (number ∷ numbers) (text ∷ texts) = flat_cell number text ∷ flat_cells numbers texts
flat_cells numbers texts = []

-- the first of some cells are flat
pub record AreFlattened (cells : List Cell) (numbers : List ℤ) (texts : List (List ℕ)) (count : ℕ)
    : Type 0 where
  pub within : count ≤ length cells
  pub lengths : length numbers ≡ length texts
  pub first : flat_cells numbers texts ≡ take count cells
