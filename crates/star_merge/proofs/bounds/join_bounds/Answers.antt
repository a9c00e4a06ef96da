use Rattle.std.proofs.Common.{◌≡◌, ◌∙◌, ◌<◌, arith, length, length-set, rules}
use Rattle.star_interval.specs.Interval.{range_of}
use Rattle.star_merge_laws.specs.Facts.{hull_of_rows}
use Rattle.star_merge.proofs.Hulls.{hull_more}
use Rattle.star_merge.proofs.bounds.join_bounds.Goals as goal

pub loop-index-preserved : goal.loop-index-preserved
loop-index-preserved c =
    let index = c.loop-index.index in
    let joined = c.loop-index.joined in
    let in_joined : index < length joined = omega (arith, c.loop-index.invariant.0) in
    let in_bounds : index < length c.args.bounds.now = search rules in
    let in_more : index < length c.args.more.now = search rules in
    let hull_is : range_of c.hull_of_parts.result
    ≡ hull_of_rows c.args.rows c.args.more_rows (range_of c.index-bounds-index.result)
    (range_of c.index-more-index.result) = search rules in (
      length-set joined index c.hull_of_parts.result ∙ c.loop-index.invariant.0,
      hull_more c.args.rows c.args.more_rows c.args.bounds.now c.args.more.now joined index
          c.index-bounds-index.result c.index-more-index.result c.hull_of_parts.result in_joined
          in_bounds
          in_more c.index-bounds-index.is c.index-more-index.is hull_is c.loop-index.invariant.1,
    )
