use Rattle.star_catalogue.proofs.table.keep.Goals as goal

pub invariant_of-result : goal.invariant_of-result
invariant_of-result c =
    record {
      columns = rw (
        c.table-table.ensures,
        c.rows-rows.ensures,
        c.in_ok-columns.ensures,
      ) c.into_columns.ensures.columns;
      keys = rw (
        c.table-table.ensures,
        c.rows-rows.ensures,
        c.in_ok-columns.ensures,
        ← c.into_columns.ensures.rows,
      ) c.in_ok-keys.ensures.0;
    }
