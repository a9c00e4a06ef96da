-- The values of keys and their order.
use Rattle.std.specs.{Prelude.Bool, Prelude.false, Prelude.nat_eq, Prelude.List, Ordering.int_cmp, Ordering.int_eq, Ordering.nat_cmp, Cmp.Lexicographic.pointwise, declared.cmp.Ordering.Ordering, declared.cmp.Ordering.TheVariants.Less, declared.cmp.Ordering.TheVariants.Greater}
use Rattle.star_program.specs.{declared.key.KeyValue.KeyValue, declared.key.KeyValue.TheVariants.Number, declared.key.KeyValue.TheVariants.Code}

-- by value or by code; the keys of one column all have one kind
abbrev pub key_value_cmp : KeyValue → KeyValue → Ordering
key_value_cmp (Number x) (Number y) = int_cmp x y
key_value_cmp (Code m) (Code n) = nat_cmp m n
key_value_cmp (Number x) (Code n) = Less
key_value_cmp (Code m) (Number y) = Greater

abbrev pub value_eq : KeyValue → KeyValue → Bool
value_eq (Number x) (Number y) = int_eq x y
value_eq (Code m) (Code n) = nat_eq m n
value_eq _ _ = false

-- whether two key lists are equal
abbrev pub same_keys : List KeyValue → List KeyValue → Bool
same_keys = pointwise value_eq
