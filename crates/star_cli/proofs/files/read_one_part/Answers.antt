use Rattle.star_schema.specs.declared.table.TableId.TheVariants.{Lineorder}
use Rattle.star_cli.{specs.Private.Reads.name_of, specs.Stores.path_in, proofs.FolderReads.some_read}
use Rattle.star_cli.proofs.files.read_one_part.Goals as goal

pub returns : goal.returns
returns g c =
    rw c.in_ok-boxed.ensures (some_read (g.R.Store.known c.args.rt.now)
    (path_in c.args.folder.now (name_of c.if-part-eq0.file)) Lineorder c.in_ok-reader.reader
    c.feed_file.new.reader c.widest.result.rows c.widest.ensures.rows c.in_ok-reader.ensures
    (rw c.if-not-branch.false at c.in_ok-feed_file.ensures.fed))
