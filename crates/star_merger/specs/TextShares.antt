-- The parts of lineorder as texts, with the partials of a query over them.
use Rattle.std.specs.Prelude.{◌≡◌, ℕ, List, map}
use Rattle.star_schema.specs.{declared.table.TableId.TheVariants.Lineorder, Database.TableTexts, Loadable.{HasDistinctKeys, IsLoadable, database_of}, Tables.rows_of}
use Rattle.star_partial.specs.Contents.{Contents}
use Rattle.star_catalogue.specs.Pieces.{with_lineorder_text}
use Rattle.star_merge_laws.specs.Parts.{LineorderPart, whole_text}
use Rattle.star_engine.specs.Partials.{IsPartialOver, span_view}

-- a part of lineorder as text, and the contents of a partial
pub record TextShare : Type 0 where
  pub text : List (List ℕ)
  pub contents : Contents

-- the part can be loaded with the dimensions of five texts, within limits on rows and visits, and
-- these are the contents of the query's partial over it, with this digest of the dimensions
pub record IsTextShare (rows visits : ℕ) (texts : TableTexts) (query hash : List ℕ)
    (share : TextShare) : Type 0 where
  pub loadable : IsLoadable rows (with_lineorder_text texts share.text)
  pub partial : IsPartialOver visits (database_of (with_lineorder_text texts share.text)) query
      share.contents
  pub digest : share.contents.digest ≡ hash

abbrev pub all_contents : List TextShare → List Contents
all_contents shares = map (λ share. share.contents) shares

-- the parts with the spans that their partials show
abbrev pub lineorder_parts : List TextShare → List LineorderPart
lineorder_parts shares =
    map (λ share. record { text = share.text; span = span_view share.contents.span }) shares

-- the five texts with all parts of lineorder
abbrev pub whole_texts : TableTexts → List TextShare → TableTexts
whole_texts texts shares = with_lineorder_text texts (whole_text (lineorder_parts shares))

-- no key of lineorder is in two parts, nor twice in one
abbrev pub AreDistinct : List TextShare → Type 0
AreDistinct shares = HasDistinctKeys Lineorder (rows_of Lineorder (whole_text (lineorder_parts shares)))
