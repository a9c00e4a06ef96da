use Rattle.std.{proofs.Common.{◌∙◌, ◌++◌, ◌∷◌, [], ap, sym, arith, map}, proofs.lemmas.List.append_assoc, proofs.lemmas.List.FromFn.map-range_with_len_more, specs.List.range_with_len}
use Rattle.star_outcome.specs.Private.RowOrder.{key_sort}
use Rattle.star_outcome.proofs.outcome.order.all_sorts.Goals as goal

pub loop-index-preserved : goal.loop-index-preserved
loop-index-preserved c =
    let index = c.loop-index.index in
    let sorts = c.args.sorts.now in
    c.in_ok-push.ensures.items ∙ ap (λ xs. xs ++ key_sort index ∷ []) c.loop-index.invariant
    ∙ append_assoc sorts (map key_sort (range_with_len 0 index)) (key_sort index ∷ [])
    ∙ ap (λ xs. sorts ++ xs) (sym (map-range_with_len_more key_sort 0 index index (omega arith)))
