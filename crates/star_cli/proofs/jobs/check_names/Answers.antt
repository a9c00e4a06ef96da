use Rattle.std.proofs.lemmas.Result.{err_from_is_err_and}
use Rattle.star_cli.proofs.Zips.{one_refused}
use Rattle.star_cli.proofs.jobs.check_names.Goals as goal

pub returns-in_err-add_name : goal.returns-in_err-add_name
returns-in_err-add_name c = λ known.
    let p = err_from_is_err_and c.from_residual.result c.from_residual.ensures.1 in
    rw (p.1, p.2)
    (one_refused known c.args.paths.now c.loop-path.path-index _ _ c.loop-path-test.true
    (c.in_err-add_name.ensures known))
