-- The positions of the columns in their tables.
use Rattle.std.{specs.Prelude.{◌≡◌, ◌+◌, ◌≤◌, ℕ, zero, suc, Bool, true, false, List, [], ◌∷◌, IfSome, Some, filter, slice_get, refl, Option}, proofs.Common.{subst, sym, lit≤}}
use Rattle.star_schema.{specs.Schema.{column_of, columns_of, index_of, is_table, position_of, table_of, width_of}, specs.declared.table.TableId.TableId, specs.declared.table.TableId.TheVariants.Date, specs.declared.column.ColumnId.ColumnId, specs.declared.column.ColumnId.TheVariants.DDatekey, specs.declared.column.TheConstants.COLUMNS, proofs.Same.table_same}

after_first : (c : ColumnId)
    → IfSome (slice_get (columns_of (table_of c)) 0) (λ d. position_of c + index_of d ≡ index_of c)
unfolding column_of columns_of position_of
after_first DDatekey = refl
after_first _ = refl

-- as many columns stand between a table's first column and this one as its position says
pub index_after_first : (c d : ColumnId) → slice_get (columns_of (table_of c)) 0 ≡ Some d
    → position_of c + index_of d ≡ index_of c
index_after_first c d first =
    subst (λ (o : Option ColumnId). IfSome o (λ e. position_of c + index_of e ≡ index_of c)) first
    (after_first c)

-- a column stands at its position
pub at_position : (c : ColumnId) → slice_get (columns_of (table_of c)) (position_of c) ≡ Some c
unfolding column_of columns_of position_of
at_position DDatekey = refl
at_position _ = refl

pub width_some : (t : TableId) → 1 ≤ width_of t
unfolding column_of columns_of
width_some Date = lit≤ tt
width_some _ = lit≤ tt

pub width_few : (t : TableId) → width_of t ≤ 17
unfolding column_of columns_of
width_few Date = lit≤ tt
width_few _ = lit≤ tt

passes_filter : {X : Type 0} (p : X → Bool) (xs : List X) (i : ℕ) (x : X)
    → slice_get (filter p xs) i ≡ Some x → p x ≡ true
passes_filter p [] i x e = cc
passes_filter p (y ∷ ys) i x e = go (p y) refl e (λ j. passes_filter p ys j x)
  where
    go : (b : Bool) → p y ≡ b → slice_get (filter p (y ∷ ys)) i ≡ Some x
        → ((j : ℕ) → slice_get (filter p ys) j ≡ Some x → p x ≡ true) → p x ≡ true
    go true same e later = here i (rw same at e)
      where
        here : (j : ℕ) → slice_get (y ∷ filter p ys) j ≡ Some x → p x ≡ true
        here zero first = let is : y ≡ x = cc in rw (← is) same
        here (suc j) rest = later j rest
    go false other e later = later i (rw other at e)

-- a column at a position of a table is one of the table's
pub in_table : (t : TableId) (index : ℕ) (c : ColumnId) → slice_get (columns_of t) index ≡ Some c
    → table_of c ≡ t
unfolding columns_of
in_table t index c at =
    sym (table_same t (table_of c)
    (passes_filter (λ d. is_table t (table_of d)) COLUMNS index c at))
