use Rattle.std.proofs.{Common.refl, lemmas.Result.err_from_is_err_and}
use Rattle.star_catalogue.specs.Load.{texts_view}
use Rattle.star_engine.{specs.Answered.change, specs.Loads.IsLoadError, specs.QuoteTexts.IsErrorOfKind, specs.Private.TextSteps.{IsQuoteOfTexts, IsRunOfTexts, IsRunErrorOfTexts}, proofs.Noting.noted_stopped, proofs.RunTextLemmas.{never_refused, none, noted_of_texts, unloaded}}
use Rattle.star_engine.proofs.calls.answer.Goals as goal

pub returns-in_err-question : goal.returns-in_err-question
returns-in_err-question g c = λ is_program file read.
    let texts = texts_view c.args.texts.now in
    let rows = c.args.limits.rows in
    let visits = c.args.limits.visits in
    let from = c.from_residual in
    let p = err_from_is_err_and from.result from.ensures.1 in
    rw (p.1, p.2)
    (noted_stopped (change g.S.Sink.contents g.S.Sink.is_failed c.args.out.now c.args.out.now)
    (change g.N.Sink.contents g.N.Sink.is_failed c.args.notes.now c.args.notes.now)
    (IsQuoteOfTexts is_program rows texts file) (IsRunOfTexts is_program rows visits texts file)
    (IsErrorOfKind is_program file) (IsRunErrorOfTexts is_program rows visits texts file)
    c.in_err-question.field-0.0 refl refl (never_refused is_program file)
    (none is_program rows visits texts file) (rw c.in_err-question.was at read))

pub returns-in_err-engine : goal.returns-in_err-engine
returns-in_err-engine g c = λ is_program file read.
    let texts = texts_view c.args.texts.now in
    let rows = c.args.limits.rows in
    let visits = c.args.limits.visits in
    let from = c.from_residual-in_err-engine in
    let p = err_from_is_err_and from.result from.ensures.1 in
    let asks = rw c.in_ok-question.was at read in
    rw (p.1, p.2)
    (noted_stopped (change g.S.Sink.contents g.S.Sink.is_failed c.args.out.now c.args.out.now)
    (change g.N.Sink.contents g.N.Sink.is_failed c.args.notes.now c.args.notes.now)
    (IsQuoteOfTexts is_program rows texts file) (IsRunOfTexts is_program rows visits texts file)
    (IsLoadError rows texts) (IsRunErrorOfTexts is_program rows visits texts file)
    c.in_err-engine.field-0.0 refl refl (λ refusal never. never)
    (unloaded is_program rows visits texts file c.in_ok-question.question.program asks)
    c.in_err-engine.ensures.refused)

pub returns : goal.returns
returns g c = λ is_program file read.
    noted_of_texts is_program c.args.limits.rows c.args.limits.visits (texts_view c.args.texts.now)
    file (change g.S.Sink.contents g.S.Sink.is_failed c.args.out.now c.answer.new.out)
    (change g.N.Sink.contents g.N.Sink.is_failed c.args.notes.now c.answer.new.notes)
    c.answer.result c.in_ok-engine.ensures.loadable (rw c.in_ok-engine.ensures.loaded at
    (c.answer.ensures is_program file (rw c.in_ok-question.was at read)))
