use Rattle.std.proofs.lemmas.Result.{err_from_is_err_and}
use Rattle.star_cli.{specs.Private.Errands.IsReadFrom, specs.declared.failure.Failure.TheVariants.OutOfMemory, proofs.Zips.{none_zip, one_refused, zip_done, zip_more}}
use Rattle.star_cli.proofs.jobs.read_files.Goals as goal

pub loop-path-init : goal.loop-path-init
loop-path-init g c =
    none_zip (IsReadFrom (g.R.Store.known c.args.rt.now)) c.args.paths.now c.new-files.result.items
    c.new-files.ensures.items

pub loop-path-preserved : goal.loop-path-preserved
loop-path-preserved g c =
    zip_more (IsReadFrom (g.R.Store.known c.args.rt.now)) c.args.paths.now c.loop-path.files.items
    c.keep.new.files.items c.loop-path.path-index _ c.in_ok-file.file c.loop-path-test.true
    c.loop-path.invariant c.in_ok-file.ensures.read c.in_ok-keep.ensures

pub returns-clause-read : goal.returns-clause-read
returns-clause-read g c =
    zip_done (IsReadFrom (g.R.Store.known c.args.rt.now)) c.args.paths.now c.loop-path.files.items
    c.loop-path.path-index c.loop-path-test.false c.loop-path.invariant

pub returns-in_err-check_names-clause-refused : goal.returns-in_err-check_names-clause-refused
returns-in_err-check_names-clause-refused g c =
    let p = err_from_is_err_and c.from_residual.result c.from_residual.ensures.1 in
    rw (p.1, p.2) (c.in_err-check_names.ensures (g.R.Store.known c.args.rt.now))

pub returns-in_err-file-clause-refused : goal.returns-in_err-file-clause-refused
returns-in_err-file-clause-refused g c =
    let p = err_from_is_err_and c.from_residual-in_err-file.result
    c.from_residual-in_err-file.ensures.1 in
    rw (p.1, p.2)
    (one_refused (g.R.Store.known c.args.rt.now) c.args.paths.now c.loop-path.path-index _ _
    c.loop-path-test.true c.in_err-file.ensures.refused)

pub returns-in_err-keep-clause-refused : goal.returns-in_err-keep-clause-refused
returns-in_err-keep-clause-refused g c =
    let p = err_from_is_err_and c.from_residual-in_err-keep.result
    c.from_residual-in_err-keep.ensures.1 in
    rw (p.1, p.2)
    (one_refused (g.R.Store.known c.args.rt.now) c.args.paths.now c.loop-path.path-index
    c.in_ok-file.file.name OutOfMemory c.loop-path-test.true tt)
