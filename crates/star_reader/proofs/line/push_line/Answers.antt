use Rattle.std.{proofs.Common.{◌≡◌, ◌<◌, ◌≤◌, ◌+◌, ◌∙◌, Some, ℕ, ap, refl, arith, drop, get_or, inl, inr, length, length-drop, length-set, map, set}, proofs.lemmas.Bool.{cases_Bool, eqb-false, eqb-true}, proofs.lemmas.List.{drop-drop, length-map}, proofs.lemmas.Option.slice_get-get_or, specs.List.slice_get, specs.Prelude.{◌==◌, nat_eq}}
use Rattle.star_reader.{specs.declared.column.RawColumn.RawColumn, specs.Columns.raw_kind, specs.Private.Steps.HasPushedTo, proofs.line.push_line.Goals.{After-index-columns-index, In-Some}}
use Rattle.star_reader.proofs.LineSteps as steps
use Rattle.star_reader.proofs.Pushes as pushes
use Rattle.star_reader.proofs.line.push_line.Goals as goal

pub loop-index-init : goal.loop-index-init
loop-index-init c = (
  0,
  omega arith,
  refl,
  steps.start c.args.line.now (map raw_kind c.args.columns.now) c.args.columns.now,
)

-- the column at the loop's position, its kind, and the kinds once it has another value
abbrev column : After-index-columns-index → RawColumn
column c = get_or c.loop-index.columns c.loop-index.index c.index-columns-index.result

column_there : (c : After-index-columns-index)
    → slice_get c.loop-index.columns c.loop-index.index ≡ Some (column c)
column_there c =
    slice_get-get_or c.loop-index.columns c.loop-index.index c.index-columns-index.result
    (omega (arith, c.loop-index.auto.columns, c.loop-index-test.true))

kind_there : (c : After-index-columns-index)
    → slice_get (map raw_kind c.args.columns.now) c.loop-index.index ≡ Some (raw_kind (column c))
kind_there c =
    let (at, within, rest, so_far) = c.loop-index.invariant in
    pushes.kind_there c.args.columns.now c.loop-index.columns c.loop-index.index (column c)
    (so_far.pushed 0).kinds (column_there c)

kinds_kept : (c : After-index-columns-index) (next : RawColumn)
    → raw_kind next ≡ raw_kind (column c)
    → map raw_kind (set c.loop-index.columns c.loop-index.index next)
    ≡ map raw_kind c.args.columns.now
kinds_kept c next kind =
    let (at, within, rest, so_far) = c.loop-index.invariant in
    pushes.kinds_kept c.args.columns.now c.loop-index.columns c.loop-index.index (column c) next
    (so_far.pushed 0).kinds (column_there c) kind

pub returns-in_err-count-clause-kinds : goal.returns-in_err-count-clause-kinds
returns-in_err-count-clause-kinds c =
    kinds_kept (goal.at.returns-in_err-count-clause-kinds c).After-index-columns-index
    c.push_front.new.self c.push_front.ensures.kind

pub returns-in-None-clause-pushed : goal.returns-in-None-clause-pushed
returns-in-None-clause-pushed c = λ at_row.
    let (at, within, rest, so_far) = c.loop-index.invariant in
    let here = (goal.at.returns-in-None-clause-pushed c).After-index-columns-index in
    steps.no_cell c.args.line.now (map raw_kind c.args.columns.now) c.loop-index.index at at_row
    c.args.columns.now c.loop-index.columns (raw_kind (column here)) so_far
    (omega (arith, c.loop-index-test.true, length-map c.args.columns.now raw_kind))
    within (kind_there here) (rw (c.in-None.is, rest) at c.in_ok-count.ensures.pushed)

pub returns-in-None-clause-kinds : goal.returns-in-None-clause-kinds
returns-in-None-clause-kinds c =
    kinds_kept (goal.at.returns-in-None-clause-kinds c).After-index-columns-index
    c.push_front.new.self c.push_front.ensures.kind

-- where the next field begins, and the column of the one before
abbrev next_at : In-Some → ℕ
next_at c = c.loop-index.invariant.0 + (c.in-Some.count + 1)

abbrev filled : In-Some → RawColumn
filled c = get_or c.loop-index.columns c.loop-index.index c.index-columns-index.result

-- one more field
next : (c : In-Some)
    → slice_get (map raw_kind c.args.columns.now) c.loop-index.index ≡ Some (raw_kind (filled c))
    → slice_get c.loop-index.columns c.loop-index.index ≡ Some (filled c)
    → HasPushedTo c.args.line.now (map raw_kind c.args.columns.now) (c.loop-index.index + 1)
    (next_at c) c.args.columns.now
    (set c.loop-index.columns c.loop-index.index c.push_front.new.self)
next c at_kind at_column =
    let (at, within, rest, so_far) = c.loop-index.invariant in
    let pushed = rw (c.in-Some.is, rest) at c.in_ok-count.ensures.pushed in
    steps.more c.args.line.now (map raw_kind c.args.columns.now) c.loop-index.index at
    c.in-Some.count c.args.columns.now c.loop-index.columns (raw_kind (filled c)) (filled c)
    c.push_front.new.self so_far
    (omega (arith, c.loop-index-test.true, length-map c.args.columns.now raw_kind)) within
    pushed.0 at_kind pushed.1 at_column pushed.2 c.push_front.ensures.kind

pub returns-then-count-rest-clause-pushed : goal.returns-then-count-rest-clause-pushed
returns-then-count-rest-clause-pushed c = λ at_row.
    let (at, within, rest, so_far) = c.loop-index.invariant in
    let some = (goal.at.returns-then-count-rest-clause-pushed c).In-Some in
    let here = (goal.at.returns-then-count-rest-clause-pushed c).After-index-columns-index in
    let more = next some (kind_there here) (column_there here) in
    let line = c.args.line.now in
    let old = c.args.columns.now in
    let index = c.loop-index.index in
    let new = set c.loop-index.columns index c.push_front.new.self in
    let long : length new ≡ length old =
    length-set c.loop-index.columns index c.push_front.new.self ∙ c.loop-index.auto.columns in
    let end : length (drop at line) ≤ c.in-Some.count = rw rest at c.if-count-rest.true in
    let past : length line < next_at some = omega (arith, within, length-drop at line, end) in
    elim (cases_Bool (nat_eq (index + 1) (length new))) [
      | inl last ↦
          rw last (steps.whole line (index + 1) (next_at some) at_row old new more
          (eqb-true (index + 1) (length new) last ∙ long) (omega (arith, past)))
      | inr early ↦
          let other = eqb-false (index + 1) (length new) early in
          rw early (steps.short_line line (map raw_kind old) (index + 1)
          (next_at some) at_row old new
          more
          (omega (arith, c.loop-index-test.true, long, other, length-map old raw_kind)) past)
    ]

pub returns-then-count-rest-clause-kinds : goal.returns-then-count-rest-clause-kinds
returns-then-count-rest-clause-kinds c =
    kinds_kept (goal.at.returns-then-count-rest-clause-kinds c).After-index-columns-index
    c.push_front.new.self c.push_front.ensures.kind

pub loop-index-preserved : goal.loop-index-preserved
loop-index-preserved c =
    let (at, within, rest, so_far) = c.loop-index.invariant in
    let here = (goal.at.loop-index-preserved c).After-index-columns-index in
    let line = c.args.line.now in
    let more : c.in-Some.count < length c.loop-index.rest.now =
    omega (arith, c.if-count-rest.false) in
    let inside : c.in-Some.count < length (drop at line) = rw rest at more in (
      at + (c.in-Some.count + 1),
      omega (arith, within, length-drop at line, inside),
      c.from-rest.ensures ∙ ap (drop (c.in-Some.count + 1)) rest
          ∙ drop-drop (c.in-Some.count + 1) at line,
      next (goal.at.loop-index-preserved c).In-Some (kind_there here) (column_there here),
    )

pub returns-clause-pushed : goal.returns-clause-pushed
returns-clause-pushed c = λ at_row.
    let (at, within, rest, so_far) = c.loop-index.invariant in
    let line = c.args.line.now in
    let old = c.args.columns.now in
    let left = length-drop at line in
    let same : length c.loop-index.rest.now ≡ length (drop at line) = ap length rest in
    let all : c.loop-index.index ≡ length old =
    omega (arith, c.loop-index-test.false, c.loop-index.auto.index-end) in
    elim (cases_Bool (length c.loop-index.rest.now == 0)) [
      | inl none ↦
          let zero = eqb-true (length c.loop-index.rest.now) 0 none in
          rw (c.is_empty.ensures, none) (steps.whole line c.loop-index.index at at_row old
          c.loop-index.columns so_far all (omega (arith, zero, same, left)))
      | inr some ↦
          let other = eqb-false (length c.loop-index.rest.now) 0 some in
          rw (c.is_empty.ensures, some) (steps.long_line line (map raw_kind old)
          c.loop-index.index at at_row old c.loop-index.columns so_far
          (omega (arith, all, length-map old raw_kind)) (omega (arith, other, same, left)))
    ]

pub returns-clause-kinds : goal.returns-clause-kinds
returns-clause-kinds c = (c.loop-index.invariant.3.pushed 0).kinds
