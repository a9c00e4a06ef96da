-- The parts so far.
use Rattle.star_cli.proofs.FolderReads.{ArePartsBefore}
use Rattle.star_cli.proofs.files.feed_parts.Given as goal

abbrev pub invariant-loop-number : goal.invariant-loop-number
invariant-loop-number g l =
    ArePartsBefore (g.R.Store.known l.rt) l.folder l.number l.initial.reader l.reader
