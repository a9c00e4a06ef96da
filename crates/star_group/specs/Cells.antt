-- What a row holds of an aggregate, and how one more number changes it.
use Rattle.std.specs.{Prelude.{ℤ, pos, ◌+ℤ◌, List, [], ◌∷◌, Option, Some, None}, Int.{int_min, int_max}}
use Rattle.star_schema.specs.{declared.group.Aggregate.Aggregate, declared.group.Aggregate.TheVariants.Sum, declared.group.Aggregate.TheVariants.Count, declared.group.Aggregate.TheVariants.Min, declared.group.Aggregate.TheVariants.Max}

-- an aggregate with one more number
abbrev pub step : Aggregate → ℤ → Option ℤ → ℤ
step Sum v None = v
step Sum v (Some z) = v +ℤ z
step Count v None = pos 1
step Count v (Some z) = z +ℤ pos 1
step Min v None = v
step Min v (Some z) = int_min v z
step Max v None = v
step Max v (Some z) = int_max v z

-- an aggregate over some numbers, None over none
unfoldable pub held : Aggregate → List ℤ → Option ℤ
held g [] = None
held g (v ∷ vs) = Some (step g v (held g vs))
