-- The parts so far.
use Rattle.std.proofs.Common.{[], map, take}
use Rattle.star_reader.specs.Partway.{HasRead}
use Rattle.star_reader.proofs.table_reader.TableReader.of_parts.Given as goal

abbrev pub invariant-loop-index : goal.invariant-loop-index
invariant-loop-index l =
    HasRead l.reader l.fn.table l.fn.limits.rows (take l.index (map (λ part. part.now) l.parts)) []
