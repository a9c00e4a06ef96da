-- Tables and columns that the tests find to be one.
use Rattle.std.{specs.Prelude.{◌≡◌, ◌<◌, true, nat_eq, Some, slice_get, refl}, proofs.Common.{ap, sym, ◌∙◌}, proofs.lemmas.Bool.Decides.Decides-eqb, proofs.lemmas.Option.{same_Some, slice_get_within}}
use Rattle.star_schema.specs.{declared.table.TableId.TheVariants.{Date, Customer, Supplier, Part, Lineorder}, declared.table.TableId.TableId, declared.column.ColumnId.ColumnId, declared.column.ColumnId.TheVariants.DDatekey, declared.column.TheConstants.COLUMNS, Schema.{index_of, is_table}}

pub table_same : (s t : TableId) → is_table s t ≡ true → s ≡ t
table_same Date Date e = refl
table_same Customer Customer e = refl
table_same Supplier Supplier e = refl
table_same Part Part e = refl
table_same Lineorder Lineorder e = refl
table_same _ _ e = cc

pub table_itself : (t : TableId) → is_table t t ≡ true
table_itself Date = refl
table_itself Customer = refl
table_itself Supplier = refl
table_itself Part = refl
table_itself Lineorder = refl

pub at_index : (c : ColumnId) → slice_get COLUMNS (index_of c) ≡ Some c
at_index DDatekey = refl
at_index _ = refl

pub index_within : (c : ColumnId) → index_of c < 58
index_within c = slice_get_within COLUMNS (index_of c) c (at_index c)

pub column_same : (c d : ColumnId) → nat_eq (index_of c) (index_of d) ≡ true → c ≡ d
column_same c d e =
    same_Some c d
    (sym (at_index c)
    ∙ ap (slice_get COLUMNS) ((Decides-eqb (index_of c) (index_of d)).0 e)
    ∙ at_index d)

pub column_itself : (c : ColumnId) → nat_eq (index_of c) (index_of c) ≡ true
column_itself c = (Decides-eqb (index_of c) (index_of c)).1 refl
