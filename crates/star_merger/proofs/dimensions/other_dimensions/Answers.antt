use Rattle.std.proofs.Common.{arith, subst, sym}
use Rattle.star_merger.specs.{Partials.contents_of, declared.partial.Partial.Partial, Private.Checked.HasDimensions}
use Rattle.star_merger.proofs.dimensions.other_dimensions.Goals as goal

pub returns-then-not-have_equal_dimensions : goal.returns-then-not-have_equal_dimensions
returns-then-not-have_equal_dimensions c = λ hash database all.
    let Has = λ (partial : Partial). HasDimensions hash database (contents_of partial) in
    let first = subst Has (sym c.index-partials-0.is)
    (all 0 c.index-partials-0.result (omega arith)) in
    let here = subst Has (sym c.index-partials-index.is)
    (all c.loop-index.index c.index-partials-index.result (omega arith)) in
    let equal = c.have_equal_dimensions.ensures hash database first here in
    absurd (cc (equal, c.if-not-have_equal_dimensions.true))
