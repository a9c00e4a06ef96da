-- The parts of lineorder with the partials of a query, and the tables of all parts together.
use Rattle.std.specs.Prelude.{ℕ, All, List, map}
use Rattle.star_schema.specs.Database.{Database}
use Rattle.star_plan.specs.Meaning.{Row}
use Rattle.star_partial.specs.Contents.{Contents}
use Rattle.star_merge_laws.specs.{Parts.with_lineorder, Tables.all_of}
use Rattle.star_engine.specs.Partials.{IsPartialOver}

-- rows of lineorder, and the contents of a partial
pub record Share : Type 0 where
  pub rows : List Row
  pub contents : Contents

abbrev pub share_rows : List Share → List (List Row)
share_rows shares = map (λ share. share.rows) shares

abbrev pub contents_of_shares : List Share → List Contents
contents_of_shares shares = map (λ share. share.contents) shares

-- each partial is that of the query over these rows, with the dimensions of a database
abbrev pub AreShares : (most : ℕ) → Database → (query : List ℕ) → List Share → Type 0
AreShares most database query shares =
    All (λ share. IsPartialOver most (with_lineorder database share.rows) query share.contents)
    shares

-- the tables with all parts of lineorder
abbrev pub whole_of : Database → List Share → Database
whole_of database shares = with_lineorder database (all_of (share_rows shares))
