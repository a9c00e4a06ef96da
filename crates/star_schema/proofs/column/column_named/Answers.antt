use Rattle.star_schema.{specs.declared.column.TheConstants.COLUMNS, specs.Schema.column_name, proofs.NamesApart.{by_name, column_by_name}}
use Rattle.star_schema.proofs.column.column_named.Goals as goal

pub returns-clause-exactly : goal.returns-clause-exactly
returns-clause-exactly c =
    by_name column_name COLUMNS column_by_name c.args.name.now _ c.first_named.ensures
