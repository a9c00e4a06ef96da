-- The columns of keys, and those that refer to keys.
use Rattle.std.{specs.Prelude.{◌≡◌, Contains, Some, None, slice_get, refl}, specs.Option.option_map, proofs.Common.{ap, ◌∙◌, lit≤}, proofs.lemmas.Option.slice_get-map}
use Rattle.star_schema.{specs.declared.column.ColumnId.TheVariants.{LoCustkey, LoPartkey, LoSuppkey, LoOrderdate, LoCommitdate}, specs.Schema.{column_of, columns_of, key_of, kind_of, kinds_of, position_of, references, table_of}, specs.declared.table.TableId.TableId, specs.declared.table.TableId.TheVariants.Lineorder, specs.declared.table.Key.TheVariants.{One, Two}, specs.declared.column.Kind.Kind, specs.declared.column.Kind.TheVariants.Number, specs.declared.column.ColumnId.ColumnId, specs.Loadable.foreign_keys, proofs.Indexes.at_position}

-- a column of numbers of a table
pub record IsNumberOf (t : TableId) (c : ColumnId) : Type 0 where
  pub table : table_of c ≡ t
  pub kind : kind_of c ≡ Number

-- the kind of a column stands at its position
pub kind_at_index : (c : ColumnId) → slice_get (kinds_of (table_of c)) (position_of c)
    ≡ Some (kind_of c)
kind_at_index c =
    slice_get-map kind_of (columns_of (table_of c)) (position_of c)
    ∙ ap (option_map kind_of) (at_position c)

pub number_at_index : (t : TableId) (c : ColumnId) → IsNumberOf t c
    → slice_get (kinds_of t) (position_of c) ≡ Some Number
number_at_index t c h = rw (← h.table) (kind_at_index c ∙ ap (λ (k : Kind). Some k) h.kind)

key_columns_are : (t : TableId)
    → elim (key_of t) as (λ _. Type 0)
    [ One c ↦ IsNumberOf t c | Two c d ↦ IsNumberOf t c × IsNumberOf t d ]
unfolding column_of
key_columns_are Lineorder =
    (record { table = refl; kind = refl }, record { table = refl; kind = refl })
key_columns_are _ = record { table = refl; kind = refl }

-- the columns of a key are numbers of its table
pub key_column : (t : TableId) (c : ColumnId) → key_of t ≡ One c → IsNumberOf t c
key_column t c e = rw e at (key_columns_are t)

pub key_pair : (t : TableId) (c d : ColumnId) → key_of t ≡ Two c d → IsNumberOf t c × IsNumberOf t d
key_pair t c d e = rw e at (key_columns_are t)

-- foreign keys are numbers of lineorder
refers_or_not : (c : ColumnId)
    → elim (references c) as (λ _. Type 0)
    [ Some t ↦ IsNumberOf Lineorder c × Contains foreign_keys c | None ↦ Unit {0} ]
unfolding column_of foreign_keys
refers_or_not LoCustkey = (record { table = refl; kind = refl }, (0, lit≤ tt, refl))
refers_or_not LoPartkey = (record { table = refl; kind = refl }, (1, lit≤ tt, refl))
refers_or_not LoSuppkey = (record { table = refl; kind = refl }, (2, lit≤ tt, refl))
refers_or_not LoOrderdate = (record { table = refl; kind = refl }, (3, lit≤ tt, refl))
refers_or_not LoCommitdate = (record { table = refl; kind = refl }, (4, lit≤ tt, refl))
refers_or_not _ = tt

pub foreign_key : (c : ColumnId) (t : TableId) → references c ≡ Some t
    → IsNumberOf Lineorder c × Contains foreign_keys c
foreign_key c t e = rw e at (refers_or_not c)
