use Rattle.std.{proofs.Common.{◌≡◌, ◌<◌, ◌∙◌, None, Some, get_or, length, ℕ, [], arith, sym}, proofs.lemmas.List.drop_all, proofs.lemmas.Option.slice_get-get_or, specs.List.slice_get}
use Rattle.csv.specs.Records.{fields_of as fields_read}
use Rattle.star_common.proofs.Lists.{drop_at_index}
use Rattle.star_reader.proofs.{PassedOn.passed_on, TableSteps.lines_from}
use Rattle.star_reader.proofs.records.add_lines.Goals as goal

pub returns-in_err-rows-in-Some : goal.returns-in_err-rows-in-Some
returns-in_err-rows-in-Some c = λ table from before all rest h.
    let so_far = c.loop-index.invariant table from before all rest h in
    let cut = drop_at_index (fields_read c.args.lines.now) c.loop-index.index c.in-Some.line.now
    (sym c.in-Some.ensures) in
    passed_on _ _ _
    (c.in_err-rows-in-Some.ensures table from before all _
    (rw (cut, lines_from c.in-Some.line.now _ rest) at so_far))
    c.from_residual.ensures.1 (λ fault. fault)

pub loop-index-preserved : goal.loop-index-preserved
loop-index-preserved c = λ table from before all rest h.
    let so_far = c.loop-index.invariant table from before all rest h in
    let cut = drop_at_index (fields_read c.args.lines.now) c.loop-index.index c.in-Some.line.now
    (sym c.in-Some.ensures) in
    c.in_ok-rows-in-Some.ensures table from before all _
    (rw (cut, lines_from c.in-Some.line.now _ rest) at so_far)

pub unreachable-requires : goal.unreachable-requires
unreachable-requires c =
    let index : ℕ = c.loop-index.index in
    let within : index < length (fields_read c.args.lines.now) = omega arith in
    let none : slice_get (fields_read c.args.lines.now) index ≡ None = sym c.in-None.ensures in
    let some = slice_get-get_or (fields_read c.args.lines.now) index [] within in
    let bad : Some (get_or (fields_read c.args.lines.now) index []) ≡ None = sym some ∙ none in
    cc bad

pub returns : goal.returns
returns c = λ table from before all rest h.
    rw (drop_all c.loop-index.index (fields_read c.args.lines.now) (omega arith))
    at (c.loop-index.invariant table from before all rest h)
