-- What stands at a position of rows.
use Rattle.std.proofs.Common.{◌≡◌, ◌∷◌, [], ℕ, List, suc, length, refl, ap}
use Rattle.star_schema.specs.{Bounds.numbers_at, Tables.Value, Texts.texts_at}

pub length-numbers_at : (index : ℕ) (rows : List (List Value)) → length (numbers_at index rows)
    ≡ length rows
unfolding numbers_at
length-numbers_at index [] = refl
length-numbers_at index (row ∷ rows) = ap suc (length-numbers_at index rows)

pub length-texts_at : (index : ℕ) (rows : List (List Value)) → length (texts_at index rows)
    ≡ length rows
unfolding texts_at
length-texts_at index [] = refl
length-texts_at index (row ∷ rows) = ap suc (length-texts_at index rows)
