use Rattle.std.proofs.{Common.{◌≡◌, ◌∙◌, ◌<◌, ℕ, List, None, ap, length, map, slice_index_or, sym, arith}, lemmas.List.{get_or-map, length-map}}
use Rattle.star_partial.specs.Contents.{Contents}
use Rattle.star_merger.specs.{Partials.contents_of, declared.partial.Partial.Partial, Merged.spans_of}
use Rattle.star_merge_laws.specs.Parts.{are_disjoint}
use Rattle.star_engine.specs.Partials.{span_view}
use Rattle.star_merger.proofs.spans.are_disjoint_at.Goals as goal

-- the span of the partial at a position
span_at : (partials : List Partial) (index : ℕ) (partial : Partial) → index < length partials
    → span_view (slice_index_or partials index partial).span
    ≡ slice_index_or (spans_of (map contents_of partials)) index None
span_at partials index partial within =
    sym (get_or-map (λ (contents : Contents). span_view contents.span) (map contents_of partials)
    index (contents_of partial) None (omega (arith, length-map partials contents_of, within))
    ∙ ap (λ (contents : Contents). span_view contents.span)
    (get_or-map contents_of partials index partial (contents_of partial) within))

pub returns : goal.returns
returns c =
    let partials = c.args.partials.now in
    c.are_disjoint.ensures
    ∙ (λ i. are_disjoint
    (span_at partials c.args.other c.index-partials-other.result c.requires.other i)
    (span_at partials c.args.index c.index-partials-index.result c.requires.index
    i))
