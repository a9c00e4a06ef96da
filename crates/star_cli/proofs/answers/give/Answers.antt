use Rattle.std.proofs.{Common.refl, lemmas.Result.err_from_is_err_and}
use Rattle.star_schema.specs.Most.{most_rows}
use Rattle.star_engine.specs.{Answered.change, Loads.IsLoadError}
use Rattle.star_cli.{specs.Private.Asking.IsNotAsked, proofs.Giving.{given_up, never_asked, not_asked, not_loaded}}
use Rattle.star_cli.proofs.answers.give.Goals as goal

pub returns-in_err-asked : goal.returns-in_err-asked
returns-in_err-asked g c = λ texts are of_tables.
    let from = c.from_residual in
    let p = err_from_is_err_and from.result from.ensures.1 in
    let file = c.args.file.now in
    rw (p.1, p.2)
    (given_up (change g.S.Sink.contents g.S.Sink.is_failed c.args.out.now c.args.out.now)
    (change g.N.Sink.contents g.N.Sink.is_failed c.args.notes.now c.args.notes.now) refl refl texts
    file
    c.in_err-asked.field-0.0 (IsNotAsked c.args.task file) (c.in_err-asked.ensures of_tables)
    (never_asked c.args.task file) c.args.task (not_asked c.args.task texts file))

pub returns-in_err-engine : goal.returns-in_err-engine
returns-in_err-engine g c = λ texts are of_tables.
    let from = c.from_residual-in_err-engine in
    let p = err_from_is_err_and from.result from.ensures.1 in
    let file = c.args.file.now in
    rw (p.1, p.2)
    (given_up (change g.S.Sink.contents g.S.Sink.is_failed c.args.out.now c.args.out.now)
    (change g.N.Sink.contents g.N.Sink.is_failed c.args.notes.now c.args.notes.now) refl refl texts
    file
    c.in_err-engine.field-0.0 (IsLoadError most_rows texts)
    (c.in_err-engine.ensures.loaded texts are) (λ refusal never. never) c.args.task
    (not_loaded c.args.task texts file c.in_ok-asked.asked (c.in_ok-asked.ensures of_tables)
    of_tables))

pub returns : goal.returns
returns g c = λ texts are of_tables.
    let engine = c.in_ok-engine.ensures.loaded texts are in
    c.ask.ensures texts engine.0 engine.1 c.args.task c.args.file.now
    (c.in_ok-asked.ensures of_tables) of_tables
