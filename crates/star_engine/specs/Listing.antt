-- The text of `check`: the row count of each of five tables, and the bounds of its numeric columns.
use Rattle.std.specs.Prelude.{◌≡◌, ℕ, List, length}
use Rattle.star_schema.specs.{declared.table.TableId.TableId, Columns.bounds_in, Tables.Value, Database.Database, Database.TableTexts, Database.rows_in}
use Rattle.star_partial.specs.Listing.{listing_text}
use Rattle.star_engine.specs.Loads.{HoldsOfRows}

-- the listing of five tables, from their rows
unfoldable pub listing_of : (TableId → List (List Value)) → List ℕ
listing_of rows = listing_text (λ t. length (rows t)) (bounds_in rows)

-- the listing of the rows of five tables
abbrev pub IsListingOver : Database → List ℕ → Type 0
IsListingOver database text = text ≡ listing_of (rows_in database)

-- the listing of the rows of five texts that can be loaded
abbrev pub IsListing : (most : ℕ) → TableTexts → List ℕ → Type 0
IsListing most texts text = HoldsOfRows most texts (λ database. IsListingOver database text)
