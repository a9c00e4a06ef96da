-- What a resolved expression or condition comes to, beside what the query's own comes to.
use Rattle.std.{proofs.Common.{◌≡◌, ℤ, Some, subst}, specs.Prelude.{◌+ℤ◌, ◌-ℤ◌, ◌*ℤ◌}}
use Rattle.star_schema.specs.{declared.column.ColumnId.ColumnId, Tables.Value}
use Rattle.star_query.specs.{Leaves.{fold_expression, fold_condition}, Tree.{Comparison, Condition, Expression, Name, Test, column, constant, add, sub, mul, or, and, not, test}}
use Rattle.star_query.specs.Tree as tree
use Rattle.star_plan.{specs.Meaning.RowCondition, specs.Names.column_at, specs.Resolved.{resolved_condition, resolved_expression, resolved_test}, proofs.Options.{both_gave, mapped_gave}}

module _ {A : Type 0} (R : A → A → Type 0) (f : Name → A) (g : ColumnId → A) (z : ℤ → A)
    (by : (ℤ → ℤ → ℤ) → A → A → A)
    (columns : (n : Name) (c : ColumnId) → column_at n ≡ Some c → R (f n) (g c))
    (numbers : (k : ℤ) → R (z k) (z k))
    (both : (op : ℤ → ℤ → ℤ) (a b c d : A) → R a b → R c d → R (by op a c) (by op b d)) where
  pub expression_related : (e : Expression Name) (x : Expression ColumnId)
      → resolved_expression e ≡ Some x → R (fold_expression f z by e) (fold_expression g z by x)
  expression_related (tree.column n) x h =
      let c = mapped_gave column (column_at n) x h in
      subst (λ y. R (f n) (fold_expression g z by y)) c.2 (columns n c.0 c.1)
  expression_related (tree.constant k) x h =
      let same : constant k ≡ x = cc in
      subst (λ y. R (z k) (fold_expression g z by y)) same (numbers k)
  expression_related (tree.add a b) x h =
      let c = both_gave add (resolved_expression a) (resolved_expression b) x h in
      subst (λ y. R (fold_expression f z by (tree.add a b)) (fold_expression g z by y)) c.made
      (both ◌+ℤ◌ _ _ _ _ (expression_related a c.left c.first)
      (expression_related b c.right c.second))
  expression_related (tree.sub a b) x h =
      let c = both_gave sub (resolved_expression a) (resolved_expression b) x h in
      subst (λ y. R (fold_expression f z by (tree.sub a b)) (fold_expression g z by y)) c.made
      (both ◌-ℤ◌ _ _ _ _ (expression_related a c.left c.first)
      (expression_related b c.right c.second))
  expression_related (tree.mul a b) x h =
      let c = both_gave mul (resolved_expression a) (resolved_expression b) x h in
      subst (λ y. R (fold_expression f z by (tree.mul a b)) (fold_expression g z by y)) c.made
      (both ◌*ℤ◌ _ _ _ _ (expression_related a c.left c.first)
      (expression_related b c.right c.second))

module _ {A : Type 0} (R : A → A → Type 0) (f : Test → A) (g : Comparison ColumnId Value → A)
    (no : A → A) (some every : A → A → A)
    (tests : (t : Test) (c : Comparison ColumnId Value) → resolved_test t ≡ Some c → R (f t) (g c))
    (nots : (a b : A) → R a b → R (no a) (no b))
    (ors : (a b c d : A) → R a b → R c d → R (some a c) (some b d))
    (ands : (a b c d : A) → R a b → R c d → R (every a c) (every b d)) where
  pub condition_related : (q : Condition Test) (x : RowCondition) → resolved_condition q ≡ Some x
      → R (fold_condition f no some every q) (fold_condition g no some every x)
  condition_related (tree.or a b) x h =
      let c = both_gave or (resolved_condition a) (resolved_condition b) x h in
      subst (λ y. R (fold_condition f no some every (tree.or a b))
      (fold_condition g no some every y)) c.made
      (ors _ _ _ _ (condition_related a c.left c.first) (condition_related b c.right c.second))
  condition_related (tree.and a b) x h =
      let c = both_gave and (resolved_condition a) (resolved_condition b) x h in
      subst (λ y. R (fold_condition f no some every (tree.and a b))
      (fold_condition g no some every y)) c.made
      (ands _ _ _ _ (condition_related a c.left c.first) (condition_related b c.right c.second))
  condition_related (tree.not a) x h =
      let c = mapped_gave not (resolved_condition a) x h in
      subst (λ y. R (fold_condition f no some every (tree.not a))
      (fold_condition g no some every y)) c.2 (nots _ _ (condition_related a c.0 c.1))
  condition_related (tree.test t) x h =
      let c = mapped_gave test (resolved_test t) x h in
      subst (λ y. R (f t) (fold_condition g no some every y)) c.2 (tests t c.0 c.1)
