-- The facts of loaded tables.
use Rattle.std.proofs.{Common.{◌≡◌, ◌<◌, ◌∙◌, ap, arith, inl, inr, length, sym}, lemmas.Option.slice_get_cases}
use Rattle.star_schema.{specs.declared.column.ColumnId.ColumnId, specs.declared.table.TableId.TableId, specs.Columns.bounds_in, specs.Database.{Database, rows_in}, specs.Schema.index_of, specs.Sizes.size_of, proofs.Same.index_within}
use Rattle.star_partial.specs.{Contents.bounds_at, Contents.range_if, Listing.listing_text}
use Rattle.star_verify.specs.{Facts.AreFacts, declared.facts.Facts.Facts}
use Rattle.star_world.specs.WorldOf.{world_of}
use Rattle.star_engine.specs.Listing.{listing_of}

module _ (database : Database) (facts : Facts) (are : AreFacts (world_of database) facts)
    (full : length facts.bounds ≡ 58) where
  pub facts_bounds : (c : ColumnId) → bounds_at facts.bounds c ≡ bounds_in (rows_in database) c
  facts_bounds c =
      let inside : index_of c < length facts.bounds = omega (arith, index_within c, full) in
      elim (slice_get_cases facts.bounds (index_of c)).1 [
        | inl there ↦ ap range_if there.2 ∙ are.bounds c there.0 (sym there.3)
        | inr past ↦ absurd (omega (arith, past.0, inside))
      ]

  pub facts_listed : listing_text (size_of facts.sizes) (bounds_at facts.bounds)
      ≡ listing_of (rows_in database)
  unfolding listing_of
  facts_listed = λ i. listing_text (λ t. are.sizes t i) (λ c. facts_bounds c i)
