use Rattle.std.proofs.{Common.{map, refl, subst, sym, ◌∙◌}, lemmas.Simd.map-map}
use Rattle.star_group.{proofs.Contents.if_ok, specs.StoreRows.row_at, specs.Stores.group_declared}
use Rattle.star_program.specs.Faults.{group_at}
use Rattle.star_outcome.{specs.Private.Decoded.{AreSortedGroups, row_cells}, proofs.Reported.{are_reported, decodable_by_number, rows_decodable, sound_counts}, proofs.Shows.{few_keys, shows_are_there}}
use Rattle.star_world.specs.WorldOf.{world_of}
use Rattle.star_outcome.proofs.outcome.reported_rows.Goals as goal

pub sorted_numbers-requires-clause-few : goal.sorted_numbers-requires-clause-few
sorted_numbers-requires-clause-few c = rw (c.as_slice-count.ensures, c.group_at-declared.ensures)
    (few_keys c.args.parts.now c.requires.limits c.requires.shown)

pub sorted_numbers-requires-clause-are : goal.sorted_numbers-requires-clause-are
sorted_numbers-requires-clause-are c =
    let d = group_at c.args.parts.now c.args.parts.now.report in
    let given = c.requires.rows in
    rw (c.as_slice-count.ensures, c.group_at-declared.ensures) (
      group_declared d,
      given.0,
      refl,
      given.1.are,
      sound_counts c.args.catalogue.now d.keys given.0 given.1.sound,
    )

pub cell_rows-requires-clause-keys : goal.cell_rows-requires-clause-keys
cell_rows-requires-clause-keys c =
    let d = group_at c.args.parts.now c.args.parts.now.report in
    let given = c.requires.rows in
    let numbers = c.in_ok-numbers.numbers.items in
    rw (c.group_at-declared.ensures, c.deref.ensures.value)
    (decodable_by_number c.args.catalogue.now d.keys c.args.rows numbers
    (rows_decodable c.args.catalogue.now d c.as_slice.result.now given.0
    (map (row_at c.args.rows) numbers) given.1.sound
    (c.in_ok-numbers.ensures (group_declared d) given.0 given.1.are)))

pub cell_rows-requires-clause-columns : goal.cell_rows-requires-clause-columns
cell_rows-requires-clause-columns c = rw (c.group_at-declared.ensures, c.as_slice-shows.ensures)
    (shows_are_there c.args.parts.now c.requires.shown)

pub returns : goal.returns
returns c = λ updates given.
    let parts = c.args.parts.now in
    let d = group_at parts parts.report in
    let rows = c.args.rows in
    let numbers = c.in_ok-numbers.numbers.items in
    let sorted = subst (λ sorts. AreSortedGroups (group_declared d) sorts updates
    (map (row_at rows) numbers)) c.as_slice.ensures
    (c.in_ok-numbers.ensures (group_declared d) updates given.are) in
    let shown = rw (c.group_at-declared.ensures, c.as_slice-shows.ensures, c.deref.ensures.value)
    at c.cell_rows.ensures in
    if_ok _ _ c.cell_rows.result
    (λ cells is. are_reported c.args.catalogue.now parts updates (map (row_at rows) numbers) rows
    cells given sorted
    (is ∙ sym (map-map (row_cells (world_of c.args.catalogue.now) d parts.shows) (row_at rows)
    numbers)))
    shown
