use Rattle.std.proofs.{lemmas.Result.IfOk-weaker, Common.None, Common.refl}
use Rattle.star_cli.specs.{Private.Reads.AreAllRead, ReadFolders.AreReadIn}
use Rattle.star_cli.proofs.files.read_tables.Goals as goal

pub returns-clause-read : goal.returns-clause-read
returns-clause-read g c =
    IfOk-weaker c.read_all-read.result
    (AreAllRead (g.R.Store.known c.args.rt.now) c.args.folder.now None)
    (AreReadIn (g.R.Store.known c.args.rt.now) c.args.folder.now)
    (λ read all. (all.0, all.1 refl, all.2)) c.read_all-read.ensures.read

pub returns-clause-unread : goal.returns-clause-unread
returns-clause-unread g c = c.read_all-read.ensures.unread refl
