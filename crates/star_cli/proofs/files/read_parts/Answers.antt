use Rattle.std.proofs.{lemmas.Result.IfOk-weaker, Common.◌≡◌, Common.None}
use Rattle.star_schema.specs.declared.table.TableId.TheVariants.{Lineorder}
use Rattle.star_cli.specs.{Private.Reads.IsLineorderRead, Private.Reads.IsReadIn, ReadFolders.HasReadSome}
use Rattle.star_cli.proofs.files.read_parts.Goals as goal

pub returns-in-Some-clause-read : goal.returns-in-Some-clause-read
returns-in-Some-clause-read g c =
    IfOk-weaker c.read_one_part.result (λ reader. HasReadSome reader.value Lineorder)
    (λ reader. IsLineorderRead (g.R.Store.known c.args.rt.now) c.args.folder.now c.args.only
    reader.value)
    (λ reader read. (read.0, λ (none : c.args.only ≡ None). cc (none, c.in-Some.is), read.1))
    c.read_one_part.ensures

pub returns-in-Some-clause-unread : goal.returns-in-Some-clause-unread
returns-in-Some-clause-unread g c = λ none. cc (none, c.in-Some.is)

pub returns-in-None-clause-read : goal.returns-in-None-clause-read
returns-in-None-clause-read g c =
    IfOk-weaker c.read_lineorder.result
    (λ reader. IsReadIn (g.R.Store.known c.args.rt.now) c.args.folder.now Lineorder reader.value)
    (λ reader. IsLineorderRead (g.R.Store.known c.args.rt.now) c.args.folder.now c.args.only
    reader.value)
    (λ reader read. (
      read.0,
      λ (none : c.args.only ≡ None). read.1,
      read.2,
    )) c.read_lineorder.ensures.read
