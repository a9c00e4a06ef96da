use Rattle.std.{proofs.Common.{◌≡◌, ◌+◌, ◌<◌, ◌∙◌, ◌⊎◌, ℕ, zero, suc, List, [], ◌∷◌, Some, ap, arith, get_or, inl, inr, subst, sym}, proofs.Math.Nat.eq-or-lt_of_le, specs.List.slice_get}
use Rattle.star_interval.specs.declared.Interval.{Interval}
use Rattle.star_schema.{specs.declared.column.ColumnId.ColumnId, specs.declared.column.TheConstants.COLUMNS, specs.Schema.index_of, proofs.Same.{at_index, index_within}}
use Rattle.star_partial.specs.Contents.{bounds_at}
use Rattle.star_merger.specs.Spelled.{HasBounds}
use Rattle.star_merger.proofs.spelled.are_spelled_bounds.Goals as goal

item_at : {X : Type 0} (xs : List X) (i : ℕ) (d x : X) → slice_get xs i ≡ Some x → get_or xs i d ≡ x
item_at [] i d x e = absurd (cc e)
item_at (y ∷ ys) zero d x e = cc
item_at (y ∷ ys) (suc i) d x e = item_at ys i d x e

one_more : (bounds : List Interval) (i : ℕ) (d : ColumnId)
    → ((c : ColumnId) → index_of c < i → HasBounds c (bounds_at bounds c))
    → HasBounds (get_or COLUMNS i d) (bounds_at bounds (get_or COLUMNS i d)) → (c : ColumnId)
    → index_of c < i + 1 → HasBounds c (bounds_at bounds c)
one_more bounds i d before here c within =
    let upto : (index_of c ≡ i) ⊎ (index_of c < i) = eq-or-lt_of_le (omega (arith, within)) in
    elim upto [
      | inl e ↦ subst (λ c. HasBounds c (bounds_at bounds c))
          (ap (λ i. get_or COLUMNS i d) (sym e)
          ∙ item_at COLUMNS (index_of c) d c (at_index c)) here
      | inr below ↦ before c below
    ]

pub loop-column-preserved : goal.loop-column-preserved
loop-column-preserved c =
    one_more c.args.bounds.now c.loop-column.column-index _ c.loop-column.invariant
    (c.is_spelled_column.ensures (cc (c.if-not-is_spelled_column.false)))

pub returns : goal.returns
returns c = λ always column.
    c.loop-column.invariant column
    (omega (arith, index_within column, c.loop-column-test.false))
