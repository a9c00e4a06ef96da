use Rattle.std.proofs.{Common.◌≡◌, Common.◌≤◌, Common.sym, Common.ap, Common.◌∙◌, Common.length, Common.arith, Common.slice_range, Common.Some, Common.get_or, lemmas.Option.get_or_from_slice_get, lemmas.Option.slice_get_within}
use Rattle.star_flat.{specs.Private.Cut.text_start, proofs.CutLemmas.{text_there, begins_before, ends_within}, proofs.texts.text_at.Goals.After-range_at-start}
use Rattle.star_flat.proofs.texts.text_at.Goals as goal

-- the end that is read is the one at the position, and lies between the text's beginning and the
-- last
ends : (c : After-range_at-start)
    → (get_or c.args.ends.now c.args.index 0 ≡ c.range_at-start.result.1)
    × (text_start 0 c.args.ends.now c.args.index ≤ c.range_at-start.result.1)
    × (c.range_at-start.result.1 ≤ length c.args.bytes.now)
ends c = grind (arith, slice_get_within, get_or_from_slice_get, begins_before, ends_within)

pub slice_bounds-result-count : goal.slice_bounds-result-count
slice_bounds-result-count c =
    let at = ends (goal.at.slice_bounds-result-count c).After-range_at-start in
    omega (arith, at.1, c.range_at-start.ensures.start)

pub slice_bounds-result-start : goal.slice_bounds-result-start
slice_bounds-result-start c =
    let at = ends (goal.at.slice_bounds-result-start c).After-range_at-start in
    omega (arith, at.1, c.range_at-start.ensures.start)

pub slice_bounds-result-end : goal.slice_bounds-result-end
slice_bounds-result-end c = (ends (goal.at.slice_bounds-result-end c).After-range_at-start).2

pub returns : goal.returns
returns c =
    let es = c.args.ends.now in
    let within = slice_get_within es c.args.index c.range_at-start.result.1
    c.range_at-start.ensures.end in
    text_there 0 c.args.bytes.now es c.args.index within
    ∙ ap (λ e. Some (slice_range c.args.bytes.now (text_start 0 es c.args.index) e))
    (ends (goal.at.returns c).After-range_at-start).0
    ∙ ap (λ s. Some (slice_range c.args.bytes.now s c.range_at-start.result.1))
    (sym c.range_at-start.ensures.start)
