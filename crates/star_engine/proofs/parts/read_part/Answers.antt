use Rattle.std.proofs.Common.{[]}
use Rattle.star_engine.proofs.parts.read_part.Goals as goal

pub returns-clause-bytes : goal.returns-clause-bytes
returns-clause-bytes g c =
    let (came, within, gone, on) = c.in_ok-feed_all.ensures.bytes in (
      came,
      within,
      gone,
      λ table most parts h. c.end_part.ensures table most parts came (on table most parts [] h),
    )
