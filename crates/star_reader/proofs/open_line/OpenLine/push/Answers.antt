use Rattle.star_reader.proofs.OpenLines.{dropped_byte, kept_byte}
use Rattle.star_reader.proofs.open_line.OpenLine.push.Goals as goal

pub returns-in_ok-keep : goal.returns-in_ok-keep
returns-in_ok-keep c = λ kinds bytes wide h.
    kept_byte kinds c.args.self.now c.keep.new.self bytes c.args.byte h c.in_ok-keep.ensures

pub returns-else-matters : goal.returns-else-matters
returns-else-matters c = λ kinds bytes wide h.
    let (long, why) = c.matters.ensures c.if-matters.false in
    dropped_byte kinds c.args.self.now bytes c.args.byte h long (rw wide why)
