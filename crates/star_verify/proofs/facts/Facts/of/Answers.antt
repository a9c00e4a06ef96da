use Rattle.std.proofs.Common.{◌∙◌, length-set}
use Rattle.star_world.specs.WorldOf.{world_of}
use Rattle.star_verify.proofs.ColumnBounds.{all_facts, one_more}
use Rattle.star_verify.proofs.facts.Facts.of.Goals as goal

pub loop-column-preserved : goal.loop-column-preserved
loop-column-preserved c =
    let kept = c.loop-column.invariant in (
      length-set c.loop-column.bounds _ c.column_bounds.result ∙ kept.0,
      one_more (world_of c.args.catalogue.now) c.loop-column.bounds c.loop-column.column-index _
          c.column_bounds.result kept.0 kept.1 c.column_bounds.ensures,
    )

pub returns : goal.returns
returns c = all_facts (world_of c.args.catalogue.now) c.sizes.result c.loop-column.bounds
    c.loop-column.column-index
    c.sizes.ensures c.loop-column-test.false c.loop-column.invariant.1
