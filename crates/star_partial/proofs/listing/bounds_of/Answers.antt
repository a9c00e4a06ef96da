use Rattle.std.proofs.{Common.{◌<◌, ap, arith, length, sym}, lemmas.Option.slice_get-get_or}
use Rattle.star_schema.{specs.Schema.index_of, proofs.Same.index_within}
use Rattle.star_partial.specs.Contents.{range_if}
use Rattle.star_partial.proofs.listing.bounds_of.Goals as goal

pub returns : goal.returns
returns c =
    let bounds = c.args.bounds.now in
    let index = index_of c.args.column in
    let inside : index < length bounds = omega (arith, index_within c.args.column) in
    sym (ap range_if (slice_get-get_or bounds index c.index-bounds-column.result inside))
