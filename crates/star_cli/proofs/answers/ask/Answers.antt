use Rattle.std.proofs.Common.{refl}
use Rattle.star_schema.specs.Most.{most_rows, most_visits}
use Rattle.star_engine.{specs.Answered.change, specs.QuoteTexts.{IsQuoteError, IsQuoteTextOver, is_program_file}, specs.Trials.{IsBoundedReport, IsTrialError, IsTrialErrorOver}, proofs.Loaded.answered_over, proofs.RunTextLemmas.noted_of_texts, proofs.Trials.no_trial_over}
use Rattle.star_cli.proofs.Giving.{answer_given, bench_given, benched, both_given, list_given, listed, nothing_given, quote_given, trial_given}
use Rattle.star_cli.proofs.answers.ask.Goals as goal

pub returns-in-Nothing : goal.returns-in-Nothing
returns-in-Nothing g c = λ texts loadable loaded task file asks of_tables.
    nothing_given (change g.S.Sink.contents g.S.Sink.is_failed c.args.out.now c.args.out.now)
    (change g.N.Sink.contents g.N.Sink.is_failed c.args.notes.now c.args.notes.now) texts file _
    task
    (rw c.in-Nothing.is at asks)

pub returns-in-List : goal.returns-in-List
returns-in-List g c = λ texts loadable loaded task file asks of_tables.
    let out = change g.S.Sink.contents g.S.Sink.is_failed c.args.out.now c.check.new.out in
    list_given out (change g.N.Sink.contents g.N.Sink.is_failed c.args.notes.now c.args.notes.now)
    texts file c.whole.result task
    (rw c.in-List.is at asks) (
      c.check.result,
      listed out texts loadable c.check.result (rw loaded at c.check.ensures),
      c.whole.ensures,
    ) refl

pub returns-in-Bench : goal.returns-in-Bench
returns-in-Bench g c = λ texts loadable loaded task file asks of_tables.
    let out = change g.S.Sink.contents g.S.Sink.is_failed c.args.out.now c.bench.new.out in
    bench_given out (change g.N.Sink.contents g.N.Sink.is_failed c.args.notes.now c.args.notes.now)
    texts file c.bench.result task
    (rw c.in-Bench.is at asks)
    (benched out texts loadable c.bench.result (rw loaded at c.bench.ensures.answered)
    (rw loaded at c.bench.ensures.fits)) refl

pub returns-in-ListAndBench : goal.returns-in-ListAndBench
returns-in-ListAndBench g c = λ texts loadable loaded task file asks of_tables.
    both_given (change g.S.Sink.contents g.S.Sink.is_failed c.args.out.now c.list_and_bench.new.out)
    (change g.N.Sink.contents g.N.Sink.is_failed c.args.notes.now c.args.notes.now) texts file
    c.list_and_bench.result task
    (rw c.in-ListAndBench.is at asks) (c.list_and_bench.ensures texts loadable loaded) refl

pub returns-in-Answer : goal.returns-in-Answer
returns-in-Answer g c = λ texts loadable loaded task file asks of_tables.
    let out = change g.S.Sink.contents g.S.Sink.is_failed c.args.out.now c.answer.new.out in
    let notes = change g.N.Sink.contents g.N.Sink.is_failed c.args.notes.now c.answer.new.notes in
    answer_given out notes texts file c.whole-in-Answer.result task c.in-Answer.question
    c.answer.result
    (rw c.in-Answer.is at asks)
    (λ is_program is. noted_of_texts is_program most_rows most_visits texts file out notes
    c.answer.result loadable (rw loaded at (c.answer.ensures is_program file is)))
    c.whole-in-Answer.ensures

pub returns-in-Quote : goal.returns-in-Quote
returns-in-Quote g c = λ texts loadable loaded task file asks of_tables.
    let out = change g.S.Sink.contents g.S.Sink.is_failed c.args.out.now c.quote.new.out in
    quote_given out (change g.N.Sink.contents g.N.Sink.is_failed c.args.notes.now c.args.notes.now)
    texts file c.whole-in-Quote.result task
    c.in-Quote.question c.quote.result (rw c.in-Quote.is at asks)
    (λ is. answered_over most_rows texts loadable out
    (λ database. IsQuoteTextOver database file) (λ database fault. ⊥)
    (IsQuoteError most_rows texts file) c.quote.result (λ fault loadable never. absurd never)
    (rw loaded at (c.quote.ensures (is_program_file file) file is))) c.whole-in-Quote.ensures refl

pub returns-in-Trial : goal.returns-in-Trial
returns-in-Trial g c = λ texts loadable loaded task file asks of_tables.
    let out = change g.S.Sink.contents g.S.Sink.is_failed c.args.out.now c.trial.new.out in
    let visits = c.in-Trial.limits.visits in
    trial_given out (change g.N.Sink.contents g.N.Sink.is_failed c.args.notes.now c.args.notes.now)
    texts file c.whole-in-Trial.result task
    c.in-Trial.question c.in-Trial.limits c.trial.result (rw c.in-Trial.is at asks) of_tables
    (λ is. answered_over most_rows texts loadable out
    (λ database. IsBoundedReport database file visits)
    (λ database. IsTrialErrorOver database file visits) (IsTrialError most_rows texts file visits)
    c.trial.result (no_trial_over most_rows texts file visits)
    (rw loaded at (c.trial.ensures file is))) c.whole-in-Trial.ensures refl
