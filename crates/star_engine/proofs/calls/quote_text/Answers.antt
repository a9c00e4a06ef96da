use Rattle.std.proofs.{Common.{◌∙◌, Err, ap, refl}, lemmas.Result.err_from_is_err_and}
use Rattle.star_catalogue.specs.Load.{texts_view}
use Rattle.star_engine.{specs.QuoteTexts.{IsQuoteError, IsQuoteText, IsQuoteTextOver, is_program_file}, specs.Answered.change, specs.Loads.IsLoadError, proofs.ByClauses.stopped_by_clauses, proofs.Loaded.over_by_clauses, proofs.QueryFaults.or_memory, proofs.RunTextLemmas.unquoted_tables}
use Rattle.star_engine.proofs.calls.quote_text.Goals as goal

pub returns-in_err-engine : goal.returns-in_err-engine
returns-in_err-engine g c =
    let texts = texts_view c.args.texts.now in
    let rows = c.args.limits.rows in
    let file = c.args.file.now in
    let from = c.from_residual-in_err-engine in
    let p = err_from_is_err_and from.result from.ensures.1 in
    let (w, b, r, m) = stopped_by_clauses
    (change g.S.Sink.contents g.S.Sink.is_failed c.args.out.now c.args.out.now)
    (IsQuoteText rows texts file) (IsQuoteError rows texts file) c.in_err-engine.field-0.0
    from.result (p.1 ∙ ap Err p.2) refl
    (or_memory (IsLoadError rows texts) (IsQuoteError rows texts file) c.in_err-engine.field-0.0
    (unquoted_tables (is_program_file file) rows texts file c.in_ok-question.question.program
    c.in_ok-question.ensures) c.in_err-engine.ensures.refused) in
    record { written = w; broken = b; refused = r; memory = m }

pub returns : goal.returns
returns g c =
    let texts = texts_view c.args.texts.now in
    let rows = c.args.limits.rows in
    let file = c.args.file.now in
    let (w, b, r, m) = over_by_clauses rows texts c.in_ok-engine.ensures.loadable
    (change g.S.Sink.contents g.S.Sink.is_failed c.args.out.now c.quote.new.out)
    (λ database. IsQuoteTextOver database file) (λ database fault. ⊥)
    (IsQuoteError rows texts file) c.quote.result (λ fault loadable never. absurd never)
    (rw c.in_ok-engine.ensures.loaded at
    (c.quote.ensures (is_program_file file) file c.in_ok-question.ensures)) in
    record { written = w; broken = b; refused = r; memory = m }
