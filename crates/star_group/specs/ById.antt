-- The content of a array store: the cells of each position, and a deferred store of the other puts.
use Rattle.std.specs.{Prelude.{◌≡◌, ℕ, ◌<◌, ◌^◌, ◌-◌, Bool, false, ℤ, pos, negsuc, List, [], filter, length, slice_index_or}, List.AllByRecursion, Option.unwrap_or}
use Rattle.star_schema.specs.{declared.group.Aggregate.Aggregate, declared.group.Aggregate.TheVariants.Sum, declared.group.Aggregate.TheVariants.Count, declared.group.Aggregate.TheVariants.Min, declared.group.Aggregate.TheVariants.Max, Groups.numbers_for}
use Rattle.star_program.specs.{Rows.cut, Puts.Update, Puts.aggregate_at}
use Rattle.star_group.specs.{declared.array_store.span.Span.Span, Base.{AreInBits, IsBase}, Cells.held, Held.has_puts, Ids.{is_at, is_outside}, Stores.Group, Keyed.{Entry, Row}}

-- what a cell has of an aggregate over no numbers: no number of 64 bits changes by it
abbrev pub neutral : Aggregate → ℤ
neutral Sum = pos 0
neutral Count = pos 0
neutral Min = pos (2 ^ 63 - 1)
neutral Max = negsuc (2 ^ 63 - 1)

-- its content over some puts
abbrev pub cell_over : Group → ℕ → List Update → ℤ
cell_over d a puts = unwrap_or (held (aggregate_at d.aggregates a) (numbers_for a puts)) (neutral (aggregate_at d.aggregates a))

-- the cell at each position follows from the puts there
abbrev pub AreAt : {A : Type 0} → A → (List Update → A) → List Span → List A → List Update → Type 0
AreAt none value spans items puts = (id : ℕ) → id < length items
    → slice_index_or items id none ≡ value (filter (λ put. is_at spans id put.keys) puts)

-- the cells of one aggregate
abbrev pub aggregate_cells : Group → List Bool → List ℤ → ℕ → List ℤ
aggregate_cells d seen cells a = slice_index_or (cut (length seen) (length d.aggregates) cells) a []

-- which ids have puts, and their cells; and the base rows of the puts whose keys have no
-- position
pub record IsArrayContent (d : Group) (spans : List Span) (seen : List Bool) (cells : List ℤ)
    (entries : List Entry) (all : Row) (puts : List Update)
    : Type 0 where
  pub fit : AllByRecursion (λ put. length put.keys ≡ d.count) puts
  pub seen_at : AreAt false has_puts spans seen puts
  pub cells_at : (a : ℕ) → a < length d.aggregates
      → AreAt (pos 0) (cell_over d a) spans (aggregate_cells d seen cells a) puts
  pub rest : IsBase d entries all (filter (λ put. is_outside spans put.keys) puts)

-- they are those of some puts that stay in their bits
abbrev pub IsArrayContentWithRoom : Group → List Span → List Bool → List ℤ → List Entry → Row
    → Type 0
IsArrayContentWithRoom d spans seen cells entries all = ∥ ((puts : List Update)
    × IsArrayContent d spans seen cells entries all puts × AreInBits d puts) ∥₁
