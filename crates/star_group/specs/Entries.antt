-- What a contract sees of rows by their keys.
use Rattle.std.specs.Prelude.{List}
use Rattle.star_group.specs.{declared.keyed.KeyedRows.KeyedRows, declared.keyed.ListedRows.ListedRows, Keyed.{keyed, Entry}}
use Rattle.star_program.specs.Rows.{cut}

-- the rows with their keys
abbrev pub listed_entries : ListedRows → List Entry
listed_entries rows = keyed (cut rows.width rows.len rows.keys.items) (cut rows.aggregate_count rows.len rows.cells.items)

abbrev pub entries_of : KeyedRows → List Entry
entries_of rows = listed_entries rows.listed
