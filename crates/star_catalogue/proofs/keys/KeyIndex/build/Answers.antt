use Rattle.std.{proofs.Common.{◌≡◌, ◌∙◌, ap, length, sym}, specs.Ordering.int_eq}
use Rattle.star_schema.{specs.declared.table.Key.TheVariants.{One, Two}, specs.Bounds.numbers_at, specs.Loadable.keys_of, specs.Schema.{key_of, position_of}, proofs.KeyColumns.{key_column, key_pair, number_at_index}}
use Rattle.star_reader.proofs.{RowIndexes.length-numbers_at, PassedOn.passed_on}
use Rattle.star_catalogue.{proofs.KeyLists.{apart_of_one, apart_of_two, fault_of_one, fault_of_two, keys_of_one, length_of_two}, proofs.Apart.numbers_apart, proofs.Found.{kept_one, none_among_two}, proofs.keys.KeyIndex.build.Goals.After-as_slice, specs.Private.Indexed.row_of_key, specs.Private.Indexes.AreIndexes}
use Rattle.star_catalogue.proofs.keys.KeyIndex.build.Goals as goal

pub numbers-requires : goal.numbers-requires
numbers-requires c =
    let table = c.args.raw.now.table in
    let key : key_of table ≡ One c.in-One.column =
    ap key_of (sym c.table-table.ensures) ∙ sym c.in-One.ensures in
    rw c.position_of.ensures.index
    (number_at_index table c.in-One.column (key_column table c.in-One.column key))

keys_are : (c : After-as_slice)
    → c.as_slice.result.now ≡ numbers_at (position_of c.in-One.column) c.args.raw.now.rows
keys_are c =
    c.as_slice.ensures.value ∙ c.in_ok-keys-in-One.ensures ∙ c.numbers.ensures.numbers
    ∙ ap (λ index. numbers_at index c.args.raw.now.rows) c.position_of.ensures.index

pub build-requires : goal.build-requires
build-requires c =
    rw (keys_are c, length-numbers_at (position_of c.in-One.column) c.args.raw.now.rows) c.requires

pub returns-in_err-index-in-One : goal.returns-in_err-index-in-One
returns-in_err-index-in-One c =
    let table = c.args.raw.now.table in
    let rows = c.args.raw.now.rows in
    let key : key_of table ≡ One c.in-One.column =
    ap key_of (sym c.table-table.ensures) ∙ sym c.in-One.ensures in
    let are = keys_are (goal.at.returns-in_err-index-in-One c).After-as_slice in
    passed_on _ _ _ c.in_err-index-in-One.ensures c.from_residual-in_err-index-in-One.ensures.1
    (λ first. fault_of_one table c.in-One.column rows key
    ∙ rw (c.table-table.ensures, are) at first)

pub returns-in_ok-index-in-One : goal.returns-in_ok-index-in-One
returns-in_ok-index-in-One c =
    let table = c.args.raw.now.table in
    let rows = c.args.raw.now.rows in
    let key : key_of table ≡ One c.in-One.column =
    ap key_of (sym c.table-table.ensures) ∙ sym c.in-One.ensures in
    let numbers = numbers_at (position_of c.in-One.column) rows in
    let index = c.in_ok-index-in-One.index in
    let are = keys_are (goal.at.returns-in_ok-index-in-One c).After-as_slice in
    let apart = numbers_apart numbers (rw are at c.in_ok-index-in-One.ensures.1) in
    let indexes : AreIndexes int_eq (row_of_key index) numbers =
    rw are at c.in_ok-index-in-One.ensures.0 in (
      kept_one (row_of_key index) numbers _ indexes (keys_of_one table c.in-One.column rows key),
      apart_of_one table c.in-One.column rows key apart,
    )

pub numbers-firsts-requires : goal.numbers-firsts-requires
numbers-firsts-requires c =
    let table = c.args.raw.now.table in
    let key : key_of table ≡ Two c.in-Two.first c.in-Two.second =
    ap key_of (sym c.table-table.ensures) ∙ sym c.in-Two.ensures in
    rw c.position_of-in-Two.ensures.index
    (number_at_index table c.in-Two.first (key_pair table c.in-Two.first c.in-Two.second key).0)

pub numbers-seconds-requires : goal.numbers-seconds-requires
numbers-seconds-requires c =
    let table = c.args.raw.now.table in
    let key : key_of table ≡ Two c.in-Two.first c.in-Two.second =
    ap key_of (sym c.table-table.ensures) ∙ sym c.in-Two.ensures in
    rw c.position_of-in-Two-2.ensures.index
    (number_at_index table c.in-Two.second
    (key_pair table c.in-Two.first c.in-Two.second key).1)

pub check_pairs-requires-clause-len : goal.check_pairs-requires-clause-len
check_pairs-requires-clause-len c =
    let rows = c.args.raw.now.rows in
    ap length c.numbers-firsts.ensures.numbers ∙ length-numbers_at c.position_of-in-Two.result rows
    ∙ sym (ap length c.numbers-seconds.ensures.numbers
    ∙ length-numbers_at c.position_of-in-Two-2.result rows)

pub check_pairs-requires-clause-few : goal.check_pairs-requires-clause-few
check_pairs-requires-clause-few c =
    rw (
      c.numbers-firsts.ensures.numbers,
      length-numbers_at c.position_of-in-Two.result c.args.raw.now.rows,
    ) c.requires

pub returns-in_err-check_pairs-in-Two : goal.returns-in_err-check_pairs-in-Two
returns-in_err-check_pairs-in-Two c =
    let table = c.args.raw.now.table in
    let rows = c.args.raw.now.rows in
    let key : key_of table ≡ Two c.in-Two.first c.in-Two.second =
    ap key_of (sym c.table-table.ensures) ∙ sym c.in-Two.ensures in
    passed_on _ _ _ c.in_err-check_pairs-in-Two.ensures
    c.from_residual-in_err-check_pairs-in-Two.ensures.1
    (λ first. fault_of_two table c.in-Two.first c.in-Two.second rows key
    ∙ rw (
      c.table-table.ensures,
      c.numbers-firsts.ensures.numbers,
      c.numbers-seconds.ensures.numbers,
      c.position_of-in-Two.ensures.index,
      c.position_of-in-Two-2.ensures.index,
    ) at first)

pub returns-in_ok-check_pairs-in-Two : goal.returns-in_ok-check_pairs-in-Two
returns-in_ok-check_pairs-in-Two c =
    let table = c.args.raw.now.table in
    let rows = c.args.raw.now.rows in
    let key : key_of table ≡ Two c.in-Two.first c.in-Two.second =
    ap key_of (sym c.table-table.ensures) ∙ sym c.in-Two.ensures in (
      λ number. none_among_two (keys_of table rows) number
          (length_of_two table c.in-Two.first c.in-Two.second rows key),
      apart_of_two table c.in-Two.first c.in-Two.second rows key
          (rw (
            c.numbers-firsts.ensures.numbers,
            c.numbers-seconds.ensures.numbers,
            c.position_of-in-Two.ensures.index,
            c.position_of-in-Two-2.ensures.index,
          ) at
          c.in_ok-check_pairs-in-Two.ensures),
    )
