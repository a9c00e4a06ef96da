use Rattle.star_cli.proofs.FolderReads.{whole_read}
use Rattle.star_cli.proofs.files.read_table.Goals as goal

pub returns-clause-read : goal.returns-clause-read
returns-clause-read g c =
    rw c.in_ok-boxed.ensures
    (whole_read (g.R.Store.known c.args.rt.now) c.args.folder.now c.args.table
    c.in_ok-reader.reader c.feed_file.new.reader c.widest.result.rows c.widest.ensures.rows
    c.in_ok-reader.ensures
    (rw (c.if-not-branch.false, c.file_name-name.ensures) at c.in_ok-feed_file.ensures.fed))
