use Rattle.std.proofs.Common.{◌∙◌, arith}
use Rattle.star_schema.specs.Database.{rows_in}
use Rattle.star_engine.{specs.Answered.change, specs.Listing.IsListingOver, proofs.ByClauses.written, proofs.Executing.listing_some, proofs.FactLemmas.facts_listed}
use Rattle.star_engine.proofs.engine.Engine.check.Goals as goal

pub write_text-requires : goal.write_text-requires
write_text-requires g c =
    rw (c.as_bytes.ensures.value ∙ c.in_ok-text.ensures
    ∙ facts_listed c.self.inside.catalogue c.of-facts.result c.of-facts.ensures (omega arith))
    (listing_some (rows_in c.self.inside.catalogue))

pub returns : goal.returns
returns g c =
    rw (← c.self.view_is) (written
    (change g.S.Sink.contents g.S.Sink.is_failed c.args.out.now c.write_text.new.out)
    c.as_bytes.result.now (IsListingOver c.self.inside.catalogue) (λ fault. ⊥) c.write_text.result
    (c.as_bytes.ensures.value ∙ c.in_ok-text.ensures
    ∙ facts_listed c.self.inside.catalogue c.of-facts.result c.of-facts.ensures (omega arith))
    c.write_text.ensures)
