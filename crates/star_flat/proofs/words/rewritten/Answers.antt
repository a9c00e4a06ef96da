use Rattle.std.proofs.{Common.rules, Math.Facts.to_z-of_z}
use Rattle.star_flat.proofs.words.rewritten.Goals as goal

pub unreachable-unreachable : goal.unreachable-unreachable
unreachable-unreachable g c =
    c.in-None.ensures (search (c.requires c.value.result c.value.ensures.held, to_z-of_z, rules))
