-- The span of the keys so far.
use Rattle.star_schema.specs.{Database.rows_in, Loadable.keys_of, declared.table.TableId.TheVariants.Lineorder}
use Rattle.star_engine.{specs.Partials.line_numbers, proofs.SpanLemmas.IsSpanOf}
use Rattle.star_engine.proofs.spans.span_of.Given as goal

abbrev pub invariant-loop-row : goal.invariant-loop-row
invariant-loop-row l =
    IsSpanOf (keys_of Lineorder (rows_in l.catalogue Lineorder)) l.row (line_numbers l.span.low)
    (line_numbers l.span.high)
