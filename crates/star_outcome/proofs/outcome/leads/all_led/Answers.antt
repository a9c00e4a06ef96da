use Rattle.std.proofs.{Common.{◌∙◌, ◌++◌, ◌∷◌, [], sym, arith}, lemmas.List.FromFn.map-range_with_len_more}
use Rattle.star_outcome.specs.Private.Leads.{led_at}
use Rattle.star_outcome.proofs.outcome.leads.all_led.Goals as goal

pub loop-number-preserved : goal.loop-number-preserved
loop-number-preserved c =
    let number = c.loop-number.number in
    c.in_ok-push.ensures.items ∙ (λ i. c.loop-number.invariant i ++ c.led_row.ensures i ∷ [])
    ∙ sym (map-range_with_len_more (led_at c.args.sorts.now c.args.rows.now) 0 number number
    (omega arith))
