use Rattle.std.proofs.{Common.{◌∙◌, Err, ap, refl}, lemmas.Result.err_from_is_err_and}
use Rattle.star_catalogue.specs.Load.{texts_view}
use Rattle.star_engine.{specs.Trials.{IsBoundedReport, IsTrialError, IsTrialErrorOver, IsTrialReport}, specs.Answered.change, specs.Loads.IsLoadError, proofs.ByClauses.stopped_by_clauses, proofs.Loaded.over_by_clauses, proofs.QueryFaults.or_memory, proofs.Trials.{no_trial_over, no_trial_unloaded}}
use Rattle.star_engine.proofs.calls.trial_program.Goals as goal

pub returns-in_err-engine : goal.returns-in_err-engine
returns-in_err-engine g c =
    let texts = texts_view c.args.texts.now in
    let rows = c.args.limits.rows in
    let file = c.args.file.now in
    let visits = c.args.visits in
    let from = c.from_residual-in_err-engine in
    let p = err_from_is_err_and from.result from.ensures.1 in
    let (w, b, r, m) = stopped_by_clauses
    (change g.S.Sink.contents g.S.Sink.is_failed c.args.out.now c.args.out.now)
    (IsTrialReport rows texts file visits) (IsTrialError rows texts file visits)
    c.in_err-engine.field-0.0 from.result (p.1 ∙ ap Err p.2) refl
    (or_memory (IsLoadError rows texts) (IsTrialError rows texts file visits)
    c.in_err-engine.field-0.0 (no_trial_unloaded rows texts file visits
    c.in_ok-question.question.program c.in_ok-question.ensures)
    c.in_err-engine.ensures.refused) in
    record { written = w; broken = b; refused = r; memory = m }

pub returns : goal.returns
returns g c =
    let texts = texts_view c.args.texts.now in
    let rows = c.args.limits.rows in
    let file = c.args.file.now in
    let visits = c.args.visits in
    let (w, b, r, m) = over_by_clauses rows texts c.in_ok-engine.ensures.loadable
    (change g.S.Sink.contents g.S.Sink.is_failed c.args.out.now c.trial.new.out)
    (λ database. IsBoundedReport database file visits)
    (λ database. IsTrialErrorOver database file visits) (IsTrialError rows texts file visits)
    c.trial.result (no_trial_over rows texts file visits)
    (rw c.in_ok-engine.ensures.loaded at (c.trial.ensures file c.in_ok-question.ensures)) in
    record { written = w; broken = b; refused = r; memory = m }
