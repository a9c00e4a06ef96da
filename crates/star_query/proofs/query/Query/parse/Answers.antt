use Rattle.std.{specs.Prelude.{IfErr, MatchResult, Result, length}, proofs.Common.{◌≡◌, ◌∙◌, ℕ, List, map, sym, ap, subst, Err}, proofs.lemmas.Result.err_from_is_err_and}
use Rattle.star_query.{specs.declared.token.Token.Token, specs.declared.fault.QueryFault.QueryFault, specs.declared.fault.QueryFault.TheVariants.OutOfMemory, specs.Symbols.symbols, specs.Private.Lexed.placed, specs.Private.TokenFaults.IsTokenFault, specs.Derives.{Derives, IsFirstQueryFault}, specs.Tree.Tree, specs.Views.tree_view, proofs.Parsing.{cut_is_memory, fault_of_text, fault_of_tokens, means_tokens, meant, not_read}}
use Rattle.star_query.specs.declared.tree.Tree as declared
use Rattle.star_query.proofs.query.Query.parse.Goals as goal

abbrev IsQueryRead : Tree → Result declared.Tree QueryFault → Type 0
IsQueryRead t result = MatchResult result (λ query. tree_view query ≡ t)
    (λ fault. fault ≡ OutOfMemory)

abbrev IsFirst : List ℕ → Result declared.Tree QueryFault → Type 0
IsFirst bytes result = IfErr result (λ fault. IsFirstQueryFault bytes fault)

pub returns-clause-found : goal.returns-clause-found
returns-clause-found c =
    let derives = subst (λ (ts : List Token).
    Derives (symbols (map placed ts)) (tree_view c.in_ok-tree.tree)) c.as_slice.ensures.value
    c.in_ok-tree.ensures.found in
    means_tokens c.args.text.now (map placed c.in_ok-tokens.tokens.items)
    (tree_view c.in_ok-tree.tree) c.if-text-gt-MAX_TEXT.false c.in_ok-tokens.ensures.found
    derives

pub returns-clause-only : goal.returns-clause-only
returns-clause-only c =
    λ t m. c.in_ok-tree.ensures.only t
    (subst (λ (ts : List Token). Derives (symbols (map placed ts)) t)
    (sym c.as_slice.ensures.value)
    (meant c.args.text.now (map placed c.in_ok-tokens.tokens.items) t
    c.in_ok-tokens.ensures.found m))

pub returns-in_err-tree-clause-only : goal.returns-in_err-tree-clause-only
returns-in_err-tree-clause-only c =
    let e = err_from_is_err_and c.from_residual-in_err-tree.result
    c.from_residual-in_err-tree.ensures.1 in
    λ t m. subst (IsQueryRead t) (sym (e.1 ∙ ap Err e.2))
    (not_read t _ (c.in_err-tree.ensures.only t
    (subst (λ (ts : List Token). Derives (symbols (map placed ts)) t)
    (sym c.as_slice.ensures.value)
    (meant c.args.text.now (map placed c.in_ok-tokens.tokens.items) t
    c.in_ok-tokens.ensures.found m))))

pub returns-in_err-tree-clause-fault : goal.returns-in_err-tree-clause-fault
returns-in_err-tree-clause-fault c =
    let e = err_from_is_err_and c.from_residual-in_err-tree.result
    c.from_residual-in_err-tree.ensures.1 in
    let tokens = map placed c.in_ok-tokens.tokens.items in
    let fault = subst (λ (ts : List Token).
    IsTokenFault (map placed ts) (length c.args.text.now) c.in_err-tree.field-0.0)
    c.as_slice.ensures.value c.in_err-tree.ensures.fault in
    subst (IsFirst c.args.text.now) (sym (e.1 ∙ ap Err e.2))
    (fault_of_tokens c.args.text.now tokens _ c.if-text-gt-MAX_TEXT.false
    c.in_ok-tokens.ensures.found fault)

pub returns-in_err-tokens-clause-only : goal.returns-in_err-tokens-clause-only
returns-in_err-tokens-clause-only c =
    let e = err_from_is_err_and c.from_residual.result c.from_residual.ensures.1 in
    λ t m. subst (IsQueryRead t) (sym (e.1 ∙ ap Err e.2))
    (cut_is_memory c.args.text.now t _ m c.in_err-tokens.ensures.fault
    c.in_err-tokens.ensures.lexical)

pub returns-in_err-tokens-clause-fault : goal.returns-in_err-tokens-clause-fault
returns-in_err-tokens-clause-fault c =
    let e = err_from_is_err_and c.from_residual.result c.from_residual.ensures.1 in
    subst (IsFirst c.args.text.now) (sym (e.1 ∙ ap Err e.2))
    (fault_of_text c.args.text.now _ c.if-text-gt-MAX_TEXT.false c.in_err-tokens.ensures.fault
    c.in_err-tokens.ensures.lexical)

pub invariant_of-result : goal.invariant_of-result
invariant_of-result c =
    let derives = subst (λ (ts : List Token).
    Derives (symbols (map placed ts)) (tree_view c.in_ok-tree.tree)) c.as_slice.ensures.value
    c.in_ok-tree.ensures.found in
    ∣ (
      c.args.text.now,
      means_tokens c.args.text.now (map placed c.in_ok-tokens.tokens.items)
          (tree_view c.in_ok-tree.tree) c.if-text-gt-MAX_TEXT.false c.in_ok-tokens.ensures.found
          derives,
    ) ∣₁
