-- Which keys show a row, which rows a group has, what its aggregates are, how values and rows of
-- groups compare; and the tables' keys.
use Rattle.std.{proofs.Common.{◌≡◌, ℤ, Bool, true, false, List, [], ◌∷◌, Option, Some, None, inl, inr, pos, negsuc, refl, arith}, specs.Prelude.{Contains, codes, map}, specs.List.Sorted.IsStrictlySortedBy, specs.Ordering.int_cmp, specs.declared.cmp.Ordering.TheVariants.{Less, Equal, Greater}}
use Rattle.star_common.proofs.Tables.{Gives, Gives2}
use Rattle.star_schema.specs.{declared.column.ColumnId.TheVariants.{CCustkey, CName, DDatekey, LoCommitdate, LoCustkey, LoLinenumber, LoOrderdate, LoOrderkey, LoPartkey, LoSuppkey, LoTax, PPartkey, SSuppkey}, declared.group.Aggregate.TheVariants.{Sum, Count, Min, Max}, declared.group.Direction.TheVariants.{Ascending, Descending}, declared.group.GroupColumn.TheVariants.{Key, Aggregate}, declared.group.Shape.Shape, declared.group.Shape.TheVariants.{Plain, Cube, Rollup}, declared.table.Key.TheVariants.{One, Two}, declared.sizes.Sizes.Sizes, declared.table.TableId.TheVariants.{Customer, Date, Lineorder, Part, Supplier}, Database.{Database, rows_in}, Loadable.{foreign_keys, key_numbers}, Sizes.size_of, Tables.{Number, Text, Value}, Groups.{AreGroups, Entry, GroupRow, IsGroup, IsMasked, aggregate, belongs, is_grouping, members, totals_of}, Order.{AreInOrder, column_cmp, key_cmp, row_cmp, value_cmp}, Schema.{columns_of, column_of, key_of, position_of, references, width_of}}

-- ---- keys of groups

-- over two keys: none, the second, the first and both hidden; no key; and a gap
abbrev shown : Shape → List Bool
shown s = map (is_grouping s)
    ((Some (pos 1) ∷ Some (pos 2) ∷ []) ∷ (Some (pos 1) ∷ None ∷ [])
    ∷ (None ∷ Some (pos 2) ∷ []) ∷ (None ∷ None ∷ []) ∷ []
    ∷ (Some (pos 1) ∷ None ∷ None ∷ Some (pos 2) ∷ []) ∷ [])

groupings : Gives shown ((Plain, true ∷ false ∷ false ∷ false ∷ true ∷ false ∷ [])
    ∷ (Cube, true ∷ true ∷ true ∷ true ∷ true ∷ true ∷ [])
    ∷ (Rollup, true ∷ true ∷ false ∷ true ∷ true ∷ false ∷ []) ∷ [])
groupings = refl

masks : (IsMasked (Some (pos 3) ∷ Some (pos 4) ∷ []) (pos 1 ∷ pos 2 ∷ [])
    ≡ ((pos 3 ≡ pos 1) × ((pos 4 ≡ pos 2) × Unit {0})))
    × (IsMasked (None ∷ Some (pos 4) ∷ []) (pos 1 ∷ pos 2 ∷ []) ≡ ((pos 4 ≡ pos 2) × Unit {0}))
    × (IsMasked [] (pos 1 ∷ []) ≡ ⊥)
masks = (refl, refl, refl)

abbrev rows : List (Entry ℤ)
rows = record { keys = pos 1 ∷ pos 2 ∷ []; values = pos 7 ∷ pos 1 ∷ [] } ∷ []

of_its_row : IsGroup Cube 2 rows (Some (pos 1) ∷ None ∷ [])
of_its_row = (refl, inl (record { keys = _; values = _ }, (0, omega arith, refl), (refl, tt)))

of_no_row : IsGroup {K = ℤ} Cube 2 [] (None ∷ None ∷ [])
    × IsGroup {K = ℤ} Rollup 2 [] (None ∷ None ∷ []) × IsGroup {K = ℤ} Plain 0 [] []
of_no_row = ((refl, inr refl), (refl, inr refl), (refl, inr refl))

not_hidden_in_a_plain_group : IsGroup Plain 2 rows (Some (pos 1) ∷ None ∷ []) → ⊥
not_hidden_in_a_plain_group h = let shown : false ≡ true = h.0 in cc shown

-- a group's totals are those of its rows, and each group of a cube is there
abbrev seven : List (Entry ℤ)
seven = record { keys = pos 1 ∷ []; values = pos 7 ∷ [] } ∷ []

module _ (totals : List (Option ℤ)) where
  its_totals : AreGroups int_cmp Plain 1 (Sum ∷ []) seven
      (record { keys = Some (pos 1) ∷ []; totals = totals } ∷ []) → totals ≡ Some (pos 7) ∷ []
  its_totals h = (h.each (record { keys = Some (pos 1) ∷ []; totals = totals })
      (0, omega arith, refl)).1

  not_another_group : AreGroups int_cmp Plain 1 (Sum ∷ []) seven
      (record { keys = None ∷ []; totals = totals } ∷ []) → IsGroup Plain 1 seven (None ∷ [])
  not_another_group h =
      (h.each (record { keys = None ∷ []; totals = totals }) (0, omega arith, refl)).0

all_is_there : (groups : List (GroupRow ℤ)) → AreGroups int_cmp Cube 1 (Sum ∷ []) seven groups
    → (group : GroupRow ℤ) × Contains groups group × (group.keys ≡ None ∷ [])
all_is_there groups h = h.all (None ∷ []) (refl, inr refl)

-- ---- the rows of a group, and what its aggregates are

of_keys : Gives (λ keys. belongs int_cmp keys (pos 1 ∷ pos 2 ∷ []))
    ((None ∷ None ∷ [], true) ∷ (Some (pos 1) ∷ None ∷ [], true) ∷ (None ∷ Some (pos 2) ∷ [], true)
    ∷ (Some (pos 2) ∷ None ∷ [], false) ∷ (Some (pos 1) ∷ Some (pos 3) ∷ [], false)
    ∷ (None ∷ [], false) ∷ [])
of_keys = refl

aggregates : Gives (λ g. aggregate g (pos 2 ∷ negsuc 4 ∷ pos 3 ∷ pos 3 ∷ []))
    ((Count, Some (pos 4)) ∷ (Sum, Some (pos 3)) ∷ (Min, Some (negsuc 4)) ∷ (Max, Some (pos 3))
    ∷ [])
aggregates = refl

abbrev values : List ℤ → Entry ℤ
values zs = record { keys = []; values = zs }

-- an aggregate for each position; a number that isn't there is 0
totals : Gives2 totals_of ((
  Sum ∷ Max ∷ Min ∷ [],
  values (pos 1 ∷ pos 5 ∷ pos 9 ∷ []) ∷ values (pos 2 ∷ pos 4 ∷ []) ∷ [],
  Some (pos 3) ∷ Some (pos 5) ∷ Some (pos 0) ∷ [],
)
    ∷ (
      Sum ∷ Count ∷ [],
      members int_cmp (None ∷ Some (pos 2) ∷ []) rows,
      Some (pos 7) ∷ Some (pos 1) ∷ [],
    )
    ∷ (
      Sum ∷ Count ∷ Min ∷ Max ∷ [],
      members int_cmp (None ∷ None ∷ []) [],
      None ∷ Some (pos 0) ∷ None ∷ None ∷ [],
    )
    ∷ [])
totals = refl

-- ---- how values, keys and rows compare

values_compare : Gives2 value_cmp (
    (Number (pos 9), Number (pos 10), Less)
    ∷ (Text (codes "9"), Text (codes "10"), Greater)
    ∷ (Number (pos 9), Text [], Less)
    ∷ (Text [], Number (pos 9), Greater)
    ∷ [])
values_compare = refl

keys_compare : Gives2 (key_cmp int_cmp)
    ((Some (pos 3), Some (pos 2), Greater) ∷ (Some (pos 3), Some (pos 3), Equal)
    ∷ (None, None, Equal) ∷ [])
keys_compare = refl

abbrev two : Option ℤ → Option ℤ → GroupRow ℤ
two a b = record { keys = a ∷ b ∷ []; totals = Some (pos 7) ∷ Some (pos 1) ∷ [] }

in_order : AreInOrder int_cmp [] (two (Some (pos 1)) (Some (pos 2)) ∷ two (Some (pos 1)) None
    ∷ two None (Some (pos 2)) ∷ two None None ∷ [])
unfolding IsStrictlySortedBy
in_order = ((refl, (refl, (refl, tt))), ((refl, (refl, tt)), ((refl, tt), (tt, tt))))

abbrev named : Option Value → ℤ → GroupRow Value
named key total = record { keys = key ∷ []; totals = Some total ∷ [] }

abbrev asia : GroupRow Value
asia = named (Some (Text (codes "ASIA"))) (pos 3)

-- ALL comes last and is no text; where the total ties the keys decide
rows_compare :
    (column_cmp value_cmp (Key 0) asia (named (Some (Text (codes "EUROPE"))) (pos 2)) ≡ Less)
    × (row_cmp value_cmp [] asia (named None (pos 4)) ≡ Less)
    × (row_cmp value_cmp [] asia (named (Some (Text (codes "ALL"))) (pos 1)) ≡ Greater)
    × (row_cmp value_cmp (record { column = Key 0; direction = Descending } ∷ []) asia
    (named None (pos 4)) ≡ Greater)
    × (row_cmp value_cmp (record { column = Aggregate 0; direction = Descending } ∷ []) asia
    (named (Some (Text (codes "EUROPE"))) (pos 3)) ≡ Less)
    × (row_cmp value_cmp (record { column = Aggregate 0; direction = Ascending } ∷ [])
    (named None (negsuc 4)) asia ≡ Less)
rows_compare = (refl, refl, refl, refl, refl, refl)

-- ---- tables, columns and keys

tables : (d : Database) → Gives (rows_in d) (
    (Date, d.date) ∷ (Customer, d.customer) ∷ (Supplier, d.supplier) ∷ (Part, d.part)
    ∷ (Lineorder, d.lineorder) ∷ [])
tables d = refl

sizes : (s : Sizes) → Gives (size_of s) (
    (Date, s.date) ∷ (Customer, s.customer) ∷ (Supplier, s.supplier)
    ∷ (Part, s.part) ∷ (Lineorder, s.lineorder) ∷ [])
sizes s = refl

-- the numbers of lineorder's pair of keys come in order
columns : Gives width_of ((Date, 17) ∷ (Customer, 8) ∷ (Supplier, 7) ∷ (Part, 9) ∷ (Lineorder, 17)
    ∷ []) × Gives key_of ((Date, One DDatekey) ∷ (Customer, One CCustkey)
    ∷ (Supplier, One SSuppkey) ∷ (Part, One PPartkey) ∷ (Lineorder, Two LoOrderkey LoLinenumber)
    ∷ []) × Gives position_of ((DDatekey, 0) ∷ (CCustkey, 0) ∷ (CName, 1) ∷ (LoTax, 14) ∷ [])
    × (foreign_keys ≡ LoCustkey ∷ LoPartkey ∷ LoSuppkey ∷ LoOrderdate ∷ LoCommitdate ∷ [])
    × Gives references ((LoCustkey, Some Customer) ∷ (LoPartkey, Some Part)
    ∷ (LoSuppkey, Some Supplier) ∷ (LoOrderdate, Some Date) ∷ (LoCommitdate, Some Date) ∷ [])
    × (key_numbers (key_of Lineorder) (Number (pos 7) ∷ Number (pos 2) ∷ Number (pos 5) ∷ [])
    ≡ pos 7 ∷ pos 2 ∷ [])
unfolding foreign_keys position_of columns_of column_of
columns = (refl, refl, refl, refl, refl, refl)
