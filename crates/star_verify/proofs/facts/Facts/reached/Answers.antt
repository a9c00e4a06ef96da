use Rattle.std.proofs.Common.{◌+◌, ◌++◌, ◌∷◌, [], List, map, drop, ap, sym, ◌∙◌}
use Rattle.star_verify.proofs.{Common.{COLUMNS, ColumnId, Reached, append-nil, append_assoc, drop_all, filter, reach_view, reached, with_bounds}, Chosen.{picked, left_out}, facts.Facts.reached.Goals.{then-has+in_ok-push, else-has}}
use Rattle.star_verify.proofs.facts.Facts.reached.Goals as goal

pub loop-column-preserved : goal.loop-column-preserved
loop-column-preserved c =
    elim c.if-has.branch [
      | then-has+in_ok-push t ↦
          (λ w facts.
          let p = reach_view c.args.reach in
          let f : ColumnId → Reached = with_bounds w in
          let so_far = c.loop-column.columns.items in
          let rest = map f (filter p (drop (c.loop-column.column-index + 1) COLUMNS)) in
          ap (λ columns. columns.items ++ rest) t.columns-is
          ∙ ap (λ (items : List Reached). items ++ rest) t.in_ok-push.ensures.items
          ∙ append_assoc so_far (t.with_bounds.result ∷ []) rest
          ∙ ap (λ (x : Reached). so_far ++ x ∷ rest) (t.with_bounds.ensures w facts)
          ∙ ap (λ items. so_far ++ items)
          (sym (picked p f COLUMNS c.loop-column.column-index _ c.loop-column-test.true
          (sym c.has.ensures ∙ t.if-has.true)))
          ∙ c.loop-column.invariant w facts)
      | else-has t ↦
          (λ w facts.
          let p = reach_view c.args.reach in
          let f : ColumnId → Reached = with_bounds w in
          let rest = map f (filter p (drop (c.loop-column.column-index + 1) COLUMNS)) in
          ap (λ columns. columns.items ++ rest) t.columns-is
          ∙ ap (λ items. c.loop-column.columns.items ++ items)
          (sym (left_out p f COLUMNS c.loop-column.column-index _ c.loop-column-test.true
          (sym c.has.ensures ∙ t.if-has.false)))
          ∙ c.loop-column.invariant w facts)
    ]

pub returns : goal.returns
unfolding reached
returns c = λ w facts.
    let p = reach_view c.args.reach in
    let f : ColumnId → Reached = with_bounds w in
    c.from_vec.ensures
    ∙ sym (append-nil c.loop-column.columns.items)
    ∙ sym (ap (λ items. c.loop-column.columns.items ++ map f (filter p items))
    (drop_all c.loop-column.column-index COLUMNS c.loop-column-test.false))
    ∙ c.loop-column.invariant w facts
