use Rattle.std.{proofs.Common.{◌≡◌, ◌∙◌, List, subst, sym, ℕ}, specs.Prelude.{Err, IfOk, Ok, Result}}
use Rattle.star_partial.specs.{Contents.Contents, Text.partial_text}
use Rattle.star_merger.{specs.Partials.contents_of, specs.declared.partial.Partial.Partial, specs.Columns.{column_kinds, column_names, plan_columns}, specs.Spelled.IsSpelled, proofs.Opened.{columns_are, text_is}, proofs.TextsApart.contents_same, proofs.Whole.one_plan}
use Rattle.star_report.specs.Columns.{ColumnKind}
use Rattle.star_merger.proofs.merger.Merger.read.Goals as goal

read_same : {E : Type 0} (text query : List ℕ) (names : List (List ℕ)) (kinds : List ColumnKind)
    (written : Contents) (result : Result Partial E) → IsSpelled names kinds written
    → text ≡ partial_text query written
    → IfOk result (λ partial. text ≡ partial_text query (contents_of partial))
    → IfOk result (λ partial. IsSpelled names kinds (contents_of partial))
    → IfOk result (λ partial. contents_of partial ≡ written)
read_same text query names kinds written (Ok partial) spelled is read well =
    contents_same query names kinds (contents_of partial) written well spelled (sym read ∙ is)
read_same text query names kinds written (Err fault) spelled is read well = tt

pub returns-clause-text : goal.returns-clause-text
returns-clause-text c = λ query is.
    let own = c.deref.ensures.value
    ∙ text_is query c.self.inside c.args.self.now c.self.view_is c.self.invariant is in
    subst (λ query. IfOk c.read_partial.result
    (λ partial. c.args.text.now ≡ partial_text query (contents_of partial))) own
    c.read_partial.ensures.text

pub returns-clause-same : goal.returns-clause-same
returns-clause-same c = λ query written is spelled text.
    let columns = plan_columns is.p in
    let own = c.deref-2.ensures.value
    ∙ columns_are query c.self.inside c.args.self.now c.self.view_is c.self.invariant is in
    read_same c.args.text.now query (column_names columns) (column_kinds columns) written
    c.read_partial.result spelled text (returns-clause-text c query is)
    (subst (λ columns. IfOk c.read_partial.result (λ partial.
    IsSpelled (column_names columns) (column_kinds columns) (contents_of partial))) own
    c.read_partial.ensures.spelled)

pub returns-clause-written : goal.returns-clause-written
returns-clause-written c = λ most database query is merger.
    returns-clause-same c query is.contents merger
    (subst (λ p. IsSpelled (column_names (plan_columns p)) (column_kinds (plan_columns p))
    is.contents) (one_plan query is.partial.p merger.p is.partial.meant merger.meant) is.spelled)
    is.written
