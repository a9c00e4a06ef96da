use Rattle.std.proofs.Common.{◌∙◌}
use Rattle.star_engine.{specs.Answered.change, specs.Executions.quote_over, specs.QuoteTexts.IsQuoteOfKindOver, proofs.ByClauses.written, proofs.Executing.quote_some, proofs.RunTextLemmas.quoted}
use Rattle.star_engine.proofs.engine.Engine.quote.Goals as goal

pub write_text-requires : goal.write_text-requires
write_text-requires g c =
    rw (c.as_bytes.ensures.value ∙ c.in_ok-note.ensures)
    (quote_some (quote_over c.self.inside.catalogue c.args.question.now.program))

pub returns : goal.returns
returns g c = λ is_program file asks.
    let most = c.self.inside.limits.visits in
    let database = c.self.inside.catalogue in
    rw (← c.self.view_is) (written
    (change g.S.Sink.contents g.S.Sink.is_failed c.args.out.now c.write_text.new.out)
    c.as_bytes.result.now (IsQuoteOfKindOver is_program database file) (λ fault. ⊥)
    c.write_text.result (quoted most database file c.args.question.now.program
    (c.each_query_has_laws.ensures most file) is_program asks c.as_bytes.result.now
    (c.as_bytes.ensures.value ∙ c.in_ok-note.ensures)) c.write_text.ensures)
