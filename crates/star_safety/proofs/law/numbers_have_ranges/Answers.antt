-- Of what is known only a range is of a number's kind.
use Rattle.star_safety.proofs.Common.{ColumnId, IsTaken, Known, KnownFlag, KnownNumber, KnownPlace, KnownRow, KnownText, Range, Reach, is_number_kind, known_kind, option_map}
use Rattle.std.proofs.Common.{◌≡◌, Option, Some, None, refl}
use Rattle.star_safety.proofs.law.numbers_have_ranges.Goals as goal

ranged : (known : Option Known) → IsTaken is_number_kind (option_map known_kind known)
    → (range : Range) × (reach : Reach) × (origin : Option ColumnId)
    × (known ≡ Some (KnownNumber range reach origin))
ranged None h = absurd h
ranged (Some (KnownNumber range reach origin)) h = (range, reach, origin, refl)
ranged (Some (KnownText c)) h = let bad : ⊥ = cc in absurd bad
ranged (Some (KnownPlace c)) h = let bad : ⊥ = cc in absurd bad
ranged (Some (KnownRow t)) h = let bad : ⊥ = cc in absurd bad
ranged (Some KnownFlag) h = let bad : ⊥ = cc in absurd bad

pub returns : goal.returns
returns c = ranged
