-- The files so far.
use Rattle.std.{proofs.Common.take, specs.List.AllZip}
use Rattle.star_cli.specs.Private.Errands.{IsReadFrom}
use Rattle.star_cli.proofs.jobs.read_files.Given as goal

abbrev pub invariant-loop-path : goal.invariant-loop-path
invariant-loop-path g l =
    AllZip (IsReadFrom (g.R.Store.known l.rt)) (take l.path-index l.paths) l.files.items
