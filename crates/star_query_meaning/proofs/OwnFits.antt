-- A query fits tables by its own words where its plan does.
use Rattle.std.{proofs.Common.{◌≡◌, ◌∙◌, ◌↔◌, ℕ, List, [], ◌∷◌, Some, refl, sym, ap, arith}, specs.Prelude.{◌+ℤ◌, ◌-ℤ◌, ◌*ℤ◌, ◌&&◌}, specs.List.list_all}
use Rattle.star_schema.specs.{declared.column.ColumnId.ColumnId, Columns.bounds_in}
use Rattle.star_interval.specs.Range.{corner_range, fits_i64, only}
use Rattle.star_query.specs.Tree.{Expression, Item, Measure, Name, Tree, add, column, constant, mul, sub}
use Rattle.star_plan.{specs.Fits.{measure_fits, nodes_fit, expression_range}, specs.Meaning.{Plan, Tables}, specs.Names.column_at, specs.Resolved.{IsResolved, resolved_expression, option_all, resolved_measure}, proofs.Options.{both_gave, mapped_gave}, proofs.Related.expression_related}
use Rattle.star_query_meaning.specs.{Fitting.FitsTables, Fitting.PlanFitsTables, Fitting.range_named, Rows.measures_of}
use Rattle.star_query.specs.Tree as tree

module _ (ts : Tables) where
  named : (n : Name) (c : ColumnId) → column_at n ≡ Some c → range_named ts n ≡ bounds_in ts c
  named n c e = rw e refl

  ranges_same : (e : Expression Name) (x : Expression ColumnId) → resolved_expression e ≡ Some x
      → expression_range (range_named ts) e ≡ expression_range (bounds_in ts) x
  ranges_same =
      expression_related (λ a b. a ≡ b) (range_named ts) (bounds_in ts) only corner_range named
      (λ k. refl) (λ op a b c d l r. cc)

  nodes_same : (e : Expression Name) (x : Expression ColumnId) → resolved_expression e ≡ Some x
      → nodes_fit (range_named ts) e ≡ nodes_fit (bounds_in ts) x
  nodes_same (tree.column n) x h =
      let g = mapped_gave column (column_at n) x h in
      ap fits_i64 (named n g.0 g.1) ∙ ap (nodes_fit (bounds_in ts)) g.2
  nodes_same (tree.constant z) x h = let same : constant z ≡ x = cc in
      ap (nodes_fit (bounds_in ts)) same
  nodes_same (tree.add a b) x h =
      let g = both_gave add (resolved_expression a) (resolved_expression b) x h in
      let whole = ap (nodes_fit (bounds_in ts)) g.made in
      let range : expression_range (range_named ts) (add a b)
      ≡ expression_range (bounds_in ts) (add g.left g.right) =
      λ i. corner_range ◌+ℤ◌ (ranges_same a g.left g.first i) (ranges_same b g.right g.second i) in
      (λ i. nodes_same a g.left g.first i
      && (nodes_same b g.right g.second i && fits_i64 (range i))) ∙ whole
  nodes_same (tree.sub a b) x h =
      let g = both_gave sub (resolved_expression a) (resolved_expression b) x h in
      let whole = ap (nodes_fit (bounds_in ts)) g.made in
      let range : expression_range (range_named ts) (sub a b)
      ≡ expression_range (bounds_in ts) (sub g.left g.right) =
      λ i. corner_range ◌-ℤ◌ (ranges_same a g.left g.first i) (ranges_same b g.right g.second i) in
      (λ i. nodes_same a g.left g.first i
      && (nodes_same b g.right g.second i && fits_i64 (range i))) ∙ whole
  nodes_same (tree.mul a b) x h =
      let g = both_gave mul (resolved_expression a) (resolved_expression b) x h in
      let whole = ap (nodes_fit (bounds_in ts)) g.made in
      let range : expression_range (range_named ts) (mul a b)
      ≡ expression_range (bounds_in ts) (mul g.left g.right) =
      λ i. corner_range ◌*ℤ◌ (ranges_same a g.left g.first i) (ranges_same b g.right g.second i) in
      (λ i. nodes_same a g.left g.first i
      && (nodes_same b g.right g.second i && fits_i64 (range i))) ∙ whole

  measure_same : (m : Measure Name) (x : Measure ColumnId) → resolved_measure m ≡ Some x
      → measure_fits (range_named ts) m ≡ measure_fits (bounds_in ts) x
  measure_same it x e = grind (arith, mapped_gave, nodes_same)

  measures_same : (items : List Item) (ms : List (Measure ColumnId))
      → option_all resolved_measure (measures_of items) ≡ Some ms
      → list_all (measure_fits (range_named ts)) (measures_of items)
      ≡ list_all (measure_fits (bounds_in ts)) ms
  measures_same [] ms e = let none : [] ≡ ms = cc in
      ap (list_all (measure_fits (bounds_in ts))) none
  measures_same (tree.plain n ∷ items) ms e = measures_same items ms e
  measures_same (tree.aggregate a ∷ items) ms e =
      let g = both_gave (λ x xs. x ∷ xs) (resolved_measure a.measure)
      (option_all resolved_measure (measures_of items)) ms e in
      (λ i. measure_same a.measure g.left g.first i && measures_same items g.right g.second i)
      ∙ ap (list_all (measure_fits (bounds_in ts))) g.made

pub own_fits : (most : ℕ) (ts : Tables) (q : Tree) (p : Plan) → IsResolved q p
    → FitsTables most ts q ↔ PlanFitsTables most ts p
own_fits most ts q p is =
    let same = measures_same ts q.items p.measures is.measures in (
      λ fits. record { visits = fits.visits; nodes = sym same ∙ fits.nodes },
      λ fits. record { visits = fits.visits; nodes = same ∙ fits.nodes },
    )
