use Rattle.star_schema.specs.declared.table.TableId.TheVariants.{Lineorder}
use Rattle.star_cli.proofs.FolderReads.{text_read}
use Rattle.star_cli.proofs.files.read_lineorder.Goals as goal

pub returns-clause-read : goal.returns-clause-read
returns-clause-read g c =
    let fed = rw c.if-not-branch.false at c.in_ok-feed_lineorder.ensures.fed in
    rw c.in_ok-boxed.ensures
    (text_read (g.R.Store.known c.args.rt.now) c.args.folder.now Lineorder fed.0
    c.in_ok-reader.reader c.feed_lineorder.new.reader c.widest.result.rows c.widest.ensures.rows
    c.in_ok-reader.ensures fed.1 fed.2)
