use Rattle.std.proofs.Common.{◌≡◌}
use Rattle.star_cli.proofs.FolderReads.{file_fed}
use Rattle.star_cli.proofs.files.feed_there.Goals as goal

pub returns : goal.returns
returns g c =
    let (came, within, gone, on) = c.in_ok-read_part.ensures.bytes in
    let same : c.new.result.reader.reader ≡ c.in-Some.opened = cc in (
      came,
      (
        file_fed g.R.File.Read.remaining (g.R.Store.known c.args.rt.now c.args.path.now)
            c.in-Some.opened c.new.result.reader.reader c.read_part.new.input.reader.reader came
            same
            (rw c.in-Some.is at c.in_ok-opened.ensures) gone c.in_ok-read_part.ensures.end,
        within,
      ),
      on,
    )
