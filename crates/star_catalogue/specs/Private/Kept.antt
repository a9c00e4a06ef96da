-- A table in memory.
use Rattle.std.specs.Prelude.{map}
use Rattle.star_schema.specs.Loadable.{keys_of}
use Rattle.star_reader.specs.Columns.{AreColumnsOf, Table, first_rows, values}
use Rattle.star_catalogue.specs.{declared.table.LoadedTable.TheInside.Inside, Private.Columns.as_read, Private.Keys.AreKept}

abbrev pub table_view : Inside → Table
table_view kept =
    record {
      table = kept.table;
      rows = first_rows kept.rows (map values (map as_read kept.columns.items));
    }

-- its columns, all of one length, and the index of its keys
pub record IsKept (kept : Inside) : Type 0 where
  pub columns : AreColumnsOf kept.table kept.rows (map as_read kept.columns.items)
  pub keys : AreKept kept.keys
      (keys_of kept.table (first_rows kept.rows (map values (map as_read kept.columns.items))))
