use Rattle.std.{proofs.Common.{◌≡◌, ◌≤◌, ◌∙◌, Some, get_or, length, map, ℕ, List, inr, sym, arith}, proofs.lemmas.List.length-map, proofs.lemmas.Option.slice_get-get_or, specs.List.slice_get}
use Rattle.csv.specs.Records.{fields_of as fields_read}
use Rattle.star_schema.specs.{declared.column.Kind.Kind, Tables.cells_of}
use Rattle.star_reader.{specs.Columns.raw_kind, proofs.Counts.{right_count, wrong_count}, proofs.Fields.{cell_at, field_there}, proofs.PassedOn.passed_on, proofs.record.push_record.Goals.After-index-columns-index}
use Rattle.star_reader.proofs.Pushes as pushes
use Rattle.star_reader.proofs.record.push_record.Goals as goal

pub returns-then-cell_count-columns-clause-pushed :
    goal.returns-then-cell_count-columns-clause-pushed
returns-then-cell_count-columns-clause-pushed c =
    let width = length-map c.args.columns.now raw_kind in
    inr (wrong_count (map raw_kind c.args.columns.now) c.args.at_row (fields_read c.args.line.now)
    (rw width (λ same. c.if-cell_count-columns.true (c.cell_count.ensures ∙ same))))

pub loop-index-init : goal.loop-index-init
loop-index-init c = pushes.start c.args.at_row (map raw_kind c.args.columns.now) _
    c.args.columns.now

-- the column at the loop's position, its kind, and the cell there
column_there : (c : After-index-columns-index)
    → slice_get c.loop-index.columns c.loop-index.index
    ≡ Some (get_or c.loop-index.columns c.loop-index.index c.index-columns-index.result)
column_there c =
    slice_get-get_or c.loop-index.columns c.loop-index.index c.index-columns-index.result
    (omega (arith, c.loop-index.auto.columns, c.loop-index-test.true))

kind_there : (c : After-index-columns-index)
    → slice_get (map raw_kind c.args.columns.now) c.loop-index.index
    ≡ Some (raw_kind (get_or c.loop-index.columns c.loop-index.index c.index-columns-index.result))
kind_there c =
    pushes.kind_there c.args.columns.now c.loop-index.columns c.loop-index.index _
    c.loop-index.invariant.kinds (column_there c)

cell_there : (c : After-index-columns-index)
    → slice_get (cells_of (length (map raw_kind c.args.columns.now))
    (fields_read c.args.line.now)) c.loop-index.index ≡ Some c.in-Some.field.now
cell_there c =
    let width = length-map c.args.columns.now raw_kind in
    cell_at (length (map raw_kind c.args.columns.now)) (fields_read c.args.line.now)
    c.loop-index.index (omega (arith, width, c.loop-index-test.true)) ∙ sym c.in-Some.ensures

pub returns-in_err-push_cell-in-Some-clause-pushed :
    goal.returns-in_err-push_cell-in-Some-clause-pushed
returns-in_err-push_cell-in-Some-clause-pushed c =
    let ks : List Kind = map raw_kind c.args.columns.now in
    let fields : List (List ℕ) = fields_read c.args.line.now in
    let all : length (cells_of (length ks) fields) ≡ length ks =
    rw (length-map c.args.columns.now raw_kind)
    (sym c.cell_count.ensures ∙ c.if-cell_count-columns.false) in
    let at = (goal.at.returns-in_err-push_cell-in-Some-clause-pushed c).After-index-columns-index in
    passed_on _ _ _ c.in_err-push_cell-in-Some.ensures.pushed c.from_residual.ensures.1
    (λ fault. right_count ks c.args.at_row fields all
    ∙ pushes.faulty c.args.at_row ks
    (cells_of (length ks) fields) c.loop-index.index c.args.columns.now c.loop-index.columns _
    _ _ c.loop-index.invariant (kind_there at) (cell_there at) fault)

pub returns-in_err-push_cell-in-Some-clause-kinds :
    goal.returns-in_err-push_cell-in-Some-clause-kinds
returns-in_err-push_cell-in-Some-clause-kinds c =
    let at = column_there (goal.at.returns-in_err-push_cell-in-Some-clause-kinds
    c).After-index-columns-index in
    pushes.kinds_kept c.args.columns.now c.loop-index.columns c.loop-index.index _
    c.push_cell.new.self c.loop-index.invariant.kinds at c.push_cell.ensures.kind

pub unreachable-requires : goal.unreachable-requires
unreachable-requires c =
    let all = sym c.cell_count.ensures ∙ c.if-cell_count-columns.false in
    field_there (length c.args.columns.now) (fields_read c.args.line.now) c.loop-index.index all
    (omega arith) (sym c.in-None.ensures)

pub loop-index-preserved : goal.loop-index-preserved
loop-index-preserved c =
    let ks : List Kind = map raw_kind c.args.columns.now in
    let fields : List (List ℕ) = fields_read c.args.line.now in
    let at = (goal.at.loop-index-preserved c).After-index-columns-index in
    pushes.more c.args.at_row ks
    (cells_of (length ks) fields) c.loop-index.index c.args.columns.now c.loop-index.columns _
    c.in-Some.field.now _ c.push_cell.new.self
    c.loop-index.invariant (kind_there at) (cell_there at)
    c.in_ok-push_cell-in-Some.ensures.pushed.0 (column_there at)
    c.in_ok-push_cell-in-Some.ensures.pushed.1 c.push_cell.ensures.kind

pub returns-clause-pushed : goal.returns-clause-pushed
returns-clause-pushed c =
    let ks : List Kind = map raw_kind c.args.columns.now in
    let fields : List (List ℕ) = fields_read c.args.line.now in
    let width : length ks ≡ length c.args.columns.now = length-map c.args.columns.now raw_kind in
    let all : length (cells_of (length ks) fields) ≡ length ks =
    rw width (sym c.cell_count.ensures ∙ c.if-cell_count-columns.false) in
    let past : length ks ≤ c.loop-index.index = omega (arith, width) in
    let w = pushes.whole c.args.at_row ks
    (cells_of (length ks) fields) c.loop-index.index c.args.columns.now c.loop-index.columns
    c.loop-index.invariant past all in
    (right_count ks c.args.at_row fields all ∙ w.no_fault, w.columns, w.width ∙ width)
