use Rattle.std.proofs.Common.{◌<◌, ◌≤◌, ◌++◌, ◌∙◌, List, ap, arith, length, refl, sym}
use Rattle.star_schema.specs.{declared.group.GroupColumn.GroupColumn, declared.group.GroupColumn.TheVariants.Aggregate, declared.group.GroupColumn.TheVariants.Key}
use Rattle.star_merge_laws.specs.Plain.{columns_at}
use Rattle.star_compile.proofs.Plain.{all_columns, measured_columns, one_column}
use Rattle.star_compile.proofs.declarations.plain_columns.Goals as goal

pub loop-index-init : goal.loop-index-init
loop-index-init c = rw c.new-columns.ensures.items refl

pub loop-index-preserved : goal.loop-index-preserved
loop-index-preserved c =
    let keys = c.args.tree.now.keys in
    let within : c.loop-index.index < length keys.items =
    omega (arith, c.loop-index-test.true, c.len-index-end.ensures, keys.ok.0) in
    rw c.in_ok-push.ensures.items
    (one_column Key keys.items c.loop-index.index c.loop-index.columns.items
    (columns_at Key 0 keys.items) within c.loop-index.invariant)

pub loop-index-2-init : goal.loop-index-2-init
loop-index-2-init c =
    let keys = c.args.tree.now.keys in
    let aggregates = c.args.tree.now.aggregates.items in
    let past : length keys.items ≤ c.loop-index.index =
    omega (arith, c.loop-index-test.false, c.len-index-end.ensures, keys.ok.0) in
    let all = all_columns Key keys.items c.loop-index.index c.loop-index.columns.items
    (columns_at Key 0 keys.items) past c.loop-index.invariant in
    ap (λ (done : List GroupColumn). done ++ columns_at Aggregate 0 aggregates) all
    ∙ ap (λ (rest : List GroupColumn). columns_at Key 0 keys.items ++ rest)
    (sym (measured_columns aggregates))

pub loop-index-2-preserved : goal.loop-index-2-preserved
loop-index-2-preserved c =
    let aggregates = c.args.tree.now.aggregates in
    let within : c.loop-index-2.index < length aggregates.items =
    omega (arith, c.loop-index-2-test.true, c.len-index-end-2.ensures, aggregates.ok.0) in
    rw c.in_ok-push-2.ensures.items
    (one_column Aggregate aggregates.items c.loop-index-2.index c.loop-index-2.columns.items _
    within
    c.loop-index-2.invariant)

pub returns : goal.returns
returns c =
    let aggregates = c.args.tree.now.aggregates in
    let past : length aggregates.items ≤ c.loop-index-2.index =
    omega (arith, c.loop-index-2-test.false, c.len-index-end-2.ensures, aggregates.ok.0) in
    all_columns Aggregate aggregates.items c.loop-index-2.index c.loop-index-2.columns.items _ past
    c.loop-index-2.invariant
