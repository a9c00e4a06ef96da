use Rattle.star_cli.proofs.FolderReads.{parts_fed, whole_fed}
use Rattle.star_cli.proofs.files.feed_lineorder.Goals as goal

pub returns-then-branch-clause-fed : goal.returns-then-branch-clause-fed
returns-then-branch-clause-fed g c =
    whole_fed (g.R.Store.known c.args.rt.now) c.args.folder.now c.args.reader.now
    c.feed_file.new.reader
    (rw (c.if-branch.true, c.file_name.ensures) at c.in_ok-feed_file.ensures.fed)

pub returns-clause-fed : goal.returns-clause-fed
returns-clause-fed g c =
    parts_fed (g.R.Store.known c.args.rt.now) c.args.folder.now c.args.reader.now
    c.feed_file.new.reader c.feed_parts.new.reader c.feed_parts.result
    (rw (c.if-branch.false, c.file_name.ensures) at c.in_ok-feed_file.ensures.fed)
    c.feed_parts.ensures.fed
