-- The errands so far.
use Rattle.std.{proofs.Common.take, specs.List.AllZip}
use Rattle.star_cli.specs.Private.Errands.{IsErrandFor}
use Rattle.star_cli.proofs.jobs.jobs_of.Given as goal

abbrev pub invariant-loop-file : goal.invariant-loop-file
invariant-loop-file l = AllZip IsErrandFor (take l.file-index l.files) l.jobs.items
