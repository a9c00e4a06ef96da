-- The index of a dimension's keys.
use Rattle.std.specs.{Prelude.{ℕ, ℤ, Option, None, position}, Ordering.int_eq}
use Rattle.star_catalogue.specs.{declared.dimension.DimensionKeys.DimensionKeys, declared.dimension.DimensionKeys.TheVariants.{Far, Near}, declared.dimension.LentKeys.LentKeys, declared.dimension.LentKeys.TheVariants.{Dense, Hashed, Nowhere}, Private.Indexes.dense_at}

-- the row of a key, if there is one
abbrev pub row_of_key : DimensionKeys → ℤ → Option ℕ
row_of_key (Near near) key = dense_at near.least near.rows.items key
row_of_key (Far far) key = position (int_eq key) far.rows.keys

-- the same for borrowed keys
abbrev pub lent_row : LentKeys → ℤ → Option ℕ
lent_row (Dense least rows) key = dense_at least rows.now key
lent_row (Hashed far) key = position (int_eq key) far.now.rows.keys
lent_row Nowhere key = None
