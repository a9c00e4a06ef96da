-- Ends of texts by the starts of their blocks.
use Rattle.std.specs.{Prelude.{◌+◌, ◌/◌, ℕ, List, length, map, slice_index}, List.range_with_len}

-- each end is its offset after the start of its block of 16
abbrev pub end_of : List ℕ → List ℕ → ℕ → ℕ
end_of starts offsets index = slice_index starts (index / 16) + slice_index offsets index

unfoldable pub ends_of : List ℕ → List ℕ → List ℕ
ends_of starts offsets = map (end_of starts offsets) (range_with_len 0 (length offsets))
