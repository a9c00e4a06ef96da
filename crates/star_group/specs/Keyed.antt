-- Rows with their keys, in flat storage.
use Rattle.std.specs.Prelude.{ℤ, List, [], ◌∷◌, ◌++◌, Option, length, drop}
use Rattle.star_group.specs.{declared.keyed.key.KeyPart.KeyPart, declared.keyed.key.KeyPart.TheVariants.All}

-- a row, and a row with its key
abbrev pub Row : Type 0
Row = List (Option ℤ)

abbrev pub Entry : Type 0
Entry = List KeyPart × Row

abbrev pub all_rolled_up : List KeyPart
all_rolled_up = All ∷ All ∷ All ∷ All ∷ All ∷ All ∷ []

-- a key in six positions, past its own with ALL
abbrev pub filled : List KeyPart → List KeyPart
filled parts = parts ++ drop (length parts) all_rolled_up

-- each key in six positions, and the aggregates of its row
unfoldable pub keyed : List (List KeyPart) → List Row → List Entry
keyed [] rows = []
keyed (key ∷ keys) [] = []
keyed (key ∷ keys) (row ∷ rows) = (filled key, row) ∷ keyed keys rows
