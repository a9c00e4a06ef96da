use Rattle.star_group.proofs.{Common.◌∙◌, Common.sym, Common.true≢false, BaseKeyLemmas.part_more, keyed.key.are_shown_first.Goals.else-shown-via-then-shown+else-hides, keyed.key.are_shown_first.Goals.else-shown-via-else-shown}
use Rattle.star_group.proofs.keyed.key.are_shown_first.Goals as goal

pub loop-part-preserved : goal.loop-part-preserved
loop-part-preserved c =
    let i = c.loop-part.part-index in
    elim c.else-shown.branch [
      | else-shown-via-then-shown+else-hides w ↦ part_more c.args.parts.now i _ c.loop-part.hides
          c.is_shown-shown.result c.loop-part-test.true c.is_shown-shown.ensures
          (λ h. w.if-hides.false) c.loop-part.invariant
      | else-shown-via-else-shown w ↦ part_more c.args.parts.now i _ c.loop-part.hides
          c.is_shown-shown.result c.loop-part-test.true c.is_shown-shown.ensures
          (λ h. absurd (true≢false (sym h ∙ w.if-shown.false))) c.loop-part.invariant
    ]
