use Rattle.std.proofs.Common.{◌≡◌, ◌-◌, arith}
use Rattle.star_schema.{specs.Schema.{index_of, position_of}, proofs.Indexes.{at_position, index_after_first, width_some}}
use Rattle.star_schema.proofs.column.position_of.Goals as goal

pub column_at-first-requires : goal.column_at-first-requires
column_at-first-requires c = let some = width_some c.table_of.result in omega arith

pub overflow_sub-result : goal.overflow_sub-result
overflow_sub-result c =
    let after = index_after_first c.args.column c.column_at-first.result
    (rw c.table_of.ensures at c.column_at-first.ensures.at) in
    omega (arith, after)

pub returns-clause-index : goal.returns-clause-index
returns-clause-index c =
    let after = index_after_first c.args.column c.column_at-first.result
    (rw c.table_of.ensures at c.column_at-first.ensures.at) in
    omega (arith, after)

pub returns-clause-there : goal.returns-clause-there
returns-clause-there c =
    let after = index_after_first c.args.column c.column_at-first.result
    (rw c.table_of.ensures at c.column_at-first.ensures.at) in
    let index : index_of c.args.column - index_of c.column_at-first.result
    ≡ position_of c.args.column = omega (arith, after) in
    rw index (at_position c.args.column)
