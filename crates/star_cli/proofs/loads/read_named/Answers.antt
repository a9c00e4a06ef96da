use Rattle.std.proofs.lemmas.Result.{IfErr-weaker}
use Rattle.star_cli.{specs.FolderLoads.{AreTablesUnread, IsFolderUnread}, proofs.Loading.unread_in}
use Rattle.star_cli.proofs.loads.read_named.Goals as goal

pub returns-clause-unread : goal.returns-clause-unread
returns-clause-unread g c =
    IfErr-weaker c.read_tables.result
    (AreTablesUnread (g.R.Store.known c.args.rt.now) c.args.folder.now)
    (IsFolderUnread (g.R.Store.known c.args.rt.now) c.args.folder.now)
    (unread_in (g.R.Store.known c.args.rt.now) c.args.folder.now) c.read_tables.ensures.unread
