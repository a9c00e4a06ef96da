-- The encoding of a text column.
use Rattle.std.specs.Prelude.{◌≡◌, ◌<◌, ◌^◌, ℕ, List, All, length}
use Rattle.star_flat.specs.Repeated.{texts_at_indexes}
use Rattle.star_schema.specs.Dictionary.{dictionary_of}

-- a dictionary and the codes of the rows: each code is an index in the dictionary, and each index
-- is the code of some row
pub record AreCodes (dictionary : List (List ℕ)) (codes : List ℕ) : Type 0 where
  pub few : length codes < 2 ^ 32
  pub within : All (λ code. code < length dictionary) codes
  pub dictionary_is : dictionary ≡ dictionary_of (texts_at_indexes dictionary codes)
