use Rattle.std.proofs.Common.{◌≤◌, arith, length}
use Rattle.star_schema.specs.{Database.rows_in, Loadable.keys_of, declared.table.TableId.TheVariants.Lineorder}
use Rattle.star_engine.{specs.Partials.line_numbers, proofs.SpanLemmas.{first_span, keys_length, no_keys, numbers_of_either, whole_span, wider_span}}
use Rattle.star_engine.proofs.spans.span_of.Goals as goal

pub returns-then-rows-eq0-clause-within : goal.returns-then-rows-eq0-clause-within
returns-then-rows-eq0-clause-within c =
    no_keys (rows_in c.args.catalogue.now Lineorder)
    (omega (arith, c.rows-rows.ensures, c.if-rows-eq0.true))

pub loop-row-init : goal.loop-row-init
loop-row-init c =
    first_span (keys_of Lineorder (rows_in c.args.catalogue.now Lineorder))
    (line_numbers c.key_at-first.result) c.key_at-first.ensures

pub loop-row-preserved : goal.loop-row-preserved
loop-row-preserved c =
    let span = c.loop-row.span in
    let key = c.key_at-key.result in
    wider_span (keys_of Lineorder (rows_in c.args.catalogue.now Lineorder)) c.loop-row.row
    (line_numbers span.low) (line_numbers span.high) (line_numbers key)
    (line_numbers c.lesser.result) (line_numbers c.greater.result) c.loop-row.invariant
    c.key_at-key.ensures c.lesser.ensures.first c.lesser.ensures.second c.greater.ensures.first
    c.greater.ensures.second
    (numbers_of_either c.lesser.result span.low key c.lesser.ensures.either)
    (numbers_of_either c.greater.result span.high key c.greater.ensures.either)

pub returns-clause-within : goal.returns-clause-within
returns-clause-within c =
    let rows = rows_in c.args.catalogue.now Lineorder in
    let keys = keys_of Lineorder rows in
    let past : length keys ≤ c.loop-row.row =
    omega (arith, keys_length Lineorder rows, c.rows-rows.ensures, c.loop-row-test.false) in
    whole_span keys c.loop-row.row (line_numbers c.loop-row.span.low)
    (line_numbers c.loop-row.span.high) past c.loop-row.invariant
