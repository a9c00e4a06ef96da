use Rattle.std.proofs.Common.{[], refl}
use Rattle.star_reader.proofs.ReaderSteps.{begun, few_columns}
use Rattle.star_reader.proofs.table_reader.TableReader.new.Goals as goal

pub invariant_of-result : goal.invariant_of-result
invariant_of-result c = record {
  few = few_columns c.in_ok-empty_columns.ensures;
  partway = (
    [],
    [],
    begun c.args.table c.args.limits.rows c.new.result
        c.in_ok-empty_columns.field-0.items c.in_ok-empty_columns.ensures c.new.ensures.rows
        (c.new.ensures.line c.args.table) c.new.ensures.start,
  );
}

pub returns : goal.returns
returns c = record {
  of_table = refl;
  limit = refl;
  come = begun c.args.table c.args.limits.rows c.new.result
      c.in_ok-empty_columns.field-0.items c.in_ok-empty_columns.ensures c.new.ensures.rows
      (c.new.ensures.line c.args.table) c.new.ensures.start;
}
