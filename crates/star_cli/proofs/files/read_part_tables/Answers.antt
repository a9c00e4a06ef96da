use Rattle.std.proofs.{Common.Some, lemmas.Result.IfOk-weaker}
use Rattle.star_cli.specs.{Private.Reads.AreAllRead, ReadFolders.AreWidelyRead}
use Rattle.star_cli.proofs.files.read_part_tables.Goals as goal

pub returns : goal.returns
returns g c =
    IfOk-weaker c.read_all-read.result
    (AreAllRead (g.R.Store.known c.args.rt.now) c.args.folder.now (Some c.args.part)) AreWidelyRead
    (λ read all. (all.0, all.2)) c.read_all-read.ensures.read
