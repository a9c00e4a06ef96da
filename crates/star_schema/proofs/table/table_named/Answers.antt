use Rattle.star_schema.{specs.declared.table.TheConstants.TABLES, specs.Schema.table_name, proofs.NamesApart.{by_name, table_by_name}}
use Rattle.star_schema.proofs.table.table_named.Goals as goal

pub returns-clause-exactly : goal.returns-clause-exactly
returns-clause-exactly c =
    by_name table_name TABLES table_by_name c.args.name.now _ c.first_named.ensures
