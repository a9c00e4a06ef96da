-- The row counts of the tables.
use Rattle.std.specs.Prelude.{ℕ}
use Rattle.star_schema.specs.declared.{table.TableId.TableId, sizes.Sizes.Sizes, table.TableId.TheVariants.{Date, Customer, Supplier, Part, Lineorder}}

abbrev pub size_of : Sizes → TableId → ℕ
size_of sizes Date = sizes.date
size_of sizes Customer = sizes.customer
size_of sizes Supplier = sizes.supplier
size_of sizes Part = sizes.part
size_of sizes Lineorder = sizes.lineorder
