-- The cells at positions after one number more for each of some rows.
use Rattle.std.specs.Prelude.{◌≡◌, ℕ, zero, suc, ◌<◌, false, true, ℤ, pos, List, [], ◌∷◌, Some, length, slice_index_or, slice_set, take, drop}
use Rattle.star_interval.specs.Range.{is_i64}
use Rattle.star_schema.specs.{declared.group.Aggregate.Aggregate, declared.group.Aggregate.TheVariants.Count}
use Rattle.star_program.specs.{Puts.leaves, Rows.cut}
use Rattle.star_group.specs.{declared.batch.PutBatch.PutBatch, Batches.put_in, Cells.step, Stores.put_number}

-- the items after the first rows, if each row changes the item at its position
unfoldable pub after_rows : {A : Type 0} → A → (ℕ → A → A) → List ℕ → List A → ℕ → List A
after_rows none change at items zero = items
after_rows none change at items (suc row) =
    slice_set (after_rows none change at items row) (slice_index_or at row 0)
    (change row (slice_index_or (after_rows none change at items row)
    (slice_index_or at row 0) none))

-- an aggregate's cells with one number more
abbrev pub taking : Aggregate → List ℤ → ℕ → ℤ → ℤ
taking g vector row cell = step g (slice_index_or vector row (pos 0)) (Some cell)

abbrev pub column_after : Aggregate → List ℤ → List ℕ → List ℤ → ℕ → List ℤ
column_after g vector at cells rows = after_rows (pos 0) (taking g vector) at cells rows

-- no SUM and no COUNT leaves its bits at any of the rows
abbrev pub CanTake : Aggregate → List ℤ → List ℕ → List ℤ → Type 0
CanTake g vector at cells = (row : ℕ) → row < length at
    → leaves g (Some (taking g vector row (slice_index_or (column_after g vector at cells row)
    (slice_index_or at row 0) (pos 0)))) ≡ false

abbrev pub AreWithin : List ℕ → ℕ → Type 0
AreWithin at ids = (row : ℕ) → row < length at → slice_index_or at row 0 < ids

-- the cells of each aggregate, one after another, with one number more for each of some rows
pub record AreCellsTaken (gs : List Aggregate) (ids : ℕ) (vectors : ℕ → List ℤ) (at : List ℕ)
    (old new : List ℤ) : Type 0 where
  pub columns : (a : ℕ) → a < length gs → slice_index_or (cut ids (length gs) new) a []
      ≡ column_after (slice_index_or gs a Count) (vectors a) at (slice_index_or (cut ids
      (length gs) old) a []) (length at)
  pub len : length new ≡ length old

abbrev pub CanTakeAll : List Aggregate → ℕ → (ℕ → List ℤ) → List ℕ → List ℤ → Type 0
CanTakeAll gs ids vectors at cells = (a : ℕ) → a < length gs
    → CanTake (slice_index_or gs a Count) (vectors a) at (slice_index_or (cut ids
    (length gs) cells) a [])

-- the vectors of one put's numbers
abbrev pub vectors_of : List ℤ → ℕ → List ℤ
vectors_of values a = take 1 (drop a values)

-- the numbers of the first rows
abbrev pub numbers_from : (ℕ → ℤ) → ℕ → List ℤ
numbers_from number zero = []
numbers_from number (suc rows) = number 0 ∷ numbers_from (λ row. number (suc row)) rows

-- the vectors of the numbers of a batch's puts
abbrev pub batch_vectors : PutBatch → ℕ → List ℤ
batch_vectors b a = numbers_from (λ row. put_number a (put_in b row)) b.rows

-- the numbers of a batch's puts for an aggregate have 64 bits
abbrev pub HasNarrow : PutBatch → ℕ → Type 0
HasNarrow b a = (row : ℕ) → row < b.rows → is_i64 (put_number a (put_in b row)) ≡ true
