-- One more byte of the record that a piece leaves open.
use Rattle.std.specs.Prelude.{◌≡◌, ◌+◌, ◌≤◌, ◌++◌, ◌∷◌, if◌then◌else◌, ℕ, []}
use Rattle.star_schema.specs.Records.{is_bar}
use Rattle.star_reader.specs.declared.open_line.OpenLine.{OpenLine}

-- one more byte was kept
pub record HasKeptByte (byte : ℕ) (old new : OpenLine) : Type 0 where
  pub kept : new.kept.items ≡ old.kept.items ++ byte ∷ []
  pub bars : new.bars ≤ (if is_bar byte then old.bars + 1 else old.bars)
  pub run : new.run ≤ (if is_bar byte then 0 else old.run + 1)
