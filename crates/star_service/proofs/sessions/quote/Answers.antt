use Rattle.star_engine.{specs.Answered.change, specs.QuoteTexts.{IsQuoteErrorOver, IsQuoteTextOver, is_program_file}, proofs.Loaded.answered_as}
use Rattle.star_service.proofs.sessions.quote.Goals as goal

pub returns : goal.returns
returns g c =
    let file = c.args.file.now in
    let is_quote = IsQuoteTextOver c.args.engine.now.database file in
    answered_as (change g.S.Sink.contents g.S.Sink.is_failed c.args.out.now c.quote.new.out)
    is_quote is_quote (λ fault. ⊥) (IsQuoteErrorOver file) c.quote.result (λ text is. is)
    (λ fault never. absurd never)
    (c.quote.ensures (is_program_file file) file c.in_ok-question.ensures)
