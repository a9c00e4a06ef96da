-- The record that a piece of a text leaves open: the bytes that a reader keeps of it.
use Rattle.std.specs.{Prelude.{◌≡◌, ◌+◌, ◌≤◌, ◌++◌, ◌∷◌, if◌then◌else◌, Bool, not, ℕ, List, [], None, length, nat_eq}, List.starts_with}
use Rattle.star_schema.specs.{declared.column.Kind.Kind, Records.ends_line, Records.fields_of, Records.is_bar, Records.is_filled, Tables.cells_of, Tables.values_of}
use Rattle.star_reader.specs.{declared.open_line.OpenLine.OpenLine, Faults.byte_order_mark, Faults.record_fault}

-- a byte within a line
abbrev pub is_inner : ℕ → Bool
is_inner b = not (ends_line b)

-- two lines are one record of a table: they have the same fault, or else the same values
pub record AreOneRecord (ks : List Kind) (a b : List ℕ) : Type 0 where
  pub fault : (at_row : ℕ)
      → record_fault ks at_row (fields_of a) ≡ record_fault ks at_row (fields_of b)
  pub values : (at_row : ℕ) → record_fault ks at_row (fields_of a) ≡ None
      → values_of ks (cells_of (length ks) (fields_of a))
      ≡ values_of ks (cells_of (length ks) (fields_of b))

-- the length of a line's last field, if `n` bytes of its first field precede the line
unfoldable pub run_from : ℕ → List ℕ → ℕ
run_from n [] = n
run_from n (b ∷ line) = if is_bar b then run_from 0 line else run_from (n + 1) line

-- the kept bytes represent these bytes of a line, whatever follows
pub record StandsFor (ks : List Kind) (line : OpenLine) (bytes : List ℕ) : Type 0 where
  pub bars : line.bars + 1 ≤ length (fields_of line.kept.items)
  pub run : line.run ≤ run_from 0 line.kept.items
  pub same : (more : List ℕ) → AreOneRecord ks (line.kept.items ++ more) (bytes ++ more)
  pub filled : is_filled line.kept.items ≡ is_filled bytes
  pub mark : (more : List ℕ)
      → starts_with nat_eq (line.kept.items ++ more) byte_order_mark
      ≡ starts_with nat_eq (bytes ++ more) byte_order_mark
