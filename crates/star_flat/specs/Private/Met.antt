-- A short text that is remembered by value.
use Rattle.std.specs.Prelude.{◌≡◌, ◌≤◌, ℕ, List, Some, slice_get, take}
use Rattle.star_flat.specs.declared.met.Met.{Met}

-- it is among the texts that are kept, at its position; a length over 16 is of none
abbrev pub IsMet : List (List ℕ) → Met → Type 0
IsMet kept met = met.len ≤ 16 → slice_get kept met.index ≡ Some (take met.len met.bytes)
