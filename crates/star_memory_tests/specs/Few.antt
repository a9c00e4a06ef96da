-- Stores of few puts into a group of two keys, with an aggregate of each kind.
use Rattle.std.specs.Prelude.{◌≡◌, ℕ, true, List, [], ◌∷◌, All, length}
use Rattle.star_schema.specs.declared.group.Aggregate.TheVariants.{Sum, Count, Min, Max}
use Rattle.star_program.specs.{declared.group.GroupDecl.GroupDecl, declared.group.GroupKey.TheVariants.Number, Puts.Update}
use Rattle.star_interval.specs.Range.{is_i64}
use Rattle.star_group.specs.Stores.{Group}

pub record IsOfTests (d : Group) : Type 0 where
  pub keys : d.count ≡ 2
  pub aggregates : d.aggregates ≡ Sum ∷ Count ∷ Min ∷ Max ∷ []

-- so declared, of numbers
pub record IsOfNumbers (d : GroupDecl) : Type 0 where
  pub keys : d.keys ≡ Number ∷ Number ∷ []
  pub aggregates : d.aggregates ≡ Sum ∷ Count ∷ Min ∷ Max ∷ []

-- `count` puts, of numbers of 64 bits
pub record AreFew (count : ℕ) (puts : List Update) : Type 0 where
  pub many : length puts ≡ count
  pub small : All (λ put. All (λ z. is_i64 z ≡ true) put.values) puts

-- a store with the content of some puts has that of `count` such puts
abbrev pub HasFew : (List Update → Type 0) → ℕ → Type 0
HasFew has count = (puts : List Update) × has puts × AreFew count puts
