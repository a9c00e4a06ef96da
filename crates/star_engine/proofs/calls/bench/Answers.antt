use Rattle.std.proofs.{Common.{◌∙◌, Err, ap, refl}, lemmas.Result.err_from_is_err_and}
use Rattle.star_catalogue.specs.Load.{texts_view}
use Rattle.star_engine.{specs.Answered.change, specs.Bench.{IsBench, IsBenchOver}, specs.Loads.IsLoadError, proofs.ByClauses.stopped_by_clauses, proofs.Loaded.over_by_clauses}
use Rattle.star_engine.proofs.calls.bench.Goals as goal

pub returns-in_err-engine : goal.returns-in_err-engine
returns-in_err-engine g c =
    let texts = texts_view c.args.texts.now in
    let rows = c.args.limits.rows in
    let p = err_from_is_err_and c.from_residual.result c.from_residual.ensures.1 in
    let (w, b, r, m) = stopped_by_clauses
    (change g.S.Sink.contents g.S.Sink.is_failed c.args.out.now c.args.out.now)
    (IsBench rows c.args.limits.visits texts) (IsLoadError rows texts) c.in_err-engine.field-0.0
    c.from_residual.result (p.1 ∙ ap Err p.2) refl c.in_err-engine.ensures.refused in
    record { written = w; broken = b; refused = r; memory = m; fits = rw p.1 tt }

pub returns : goal.returns
returns g c =
    let texts = texts_view c.args.texts.now in
    let rows = c.args.limits.rows in
    let (w, b, r, m) = over_by_clauses rows texts c.in_ok-engine.ensures.loadable
    (change g.S.Sink.contents g.S.Sink.is_failed c.args.out.now c.bench.new.out)
    (IsBenchOver c.args.limits.visits) (λ database fault. ⊥) (IsLoadError rows texts)
    c.bench.result (λ fault loadable never. absurd never)
    (rw c.in_ok-engine.ensures.loaded at c.bench.ensures.answered) in record {
      written = w;
      broken = b;
      refused = r;
      memory = m;
      fits = rw c.in_ok-engine.ensures.loaded at c.bench.ensures.fits;
    }
