use Rattle.std.proofs.Common.{ap, sym, ◌∙◌}
use Rattle.star_verify.proofs.{Common.{answer_known, bounds_of, known_view, option_map, range_of, reach_view, ◌*ℤ◌, ◌+ℤ◌, ◌-ℤ◌}, Overflows.{computed_is, overflow_as}}
use Rattle.star_verify.proofs.known.answer.Goals as goal

pub returns-in-Add-clause-overflow : goal.returns-in-Add-clause-overflow
returns-in-Add-clause-overflow c = λ w.
    overflow_as w c.computed.result _ _
    (computed_is ◌+ℤ◌ (bounds_of c.add.result) (range_of c.range_at-from.result)
    (range_of c.range_at-to.result)
    (reach_view c.joined-reach.result) (reach_view c.reach_at.result)
    (reach_view c.reach_at-2.result)
    (option_map known_view c.args.left) (option_map known_view c.args.right)
    c.add.ensures.corners c.range_at-from.ensures c.range_at-to.ensures c.joined-reach.ensures
    c.reach_at.ensures c.reach_at-2.ensures
    ∙ ap (λ o. answer_known o (option_map known_view c.args.left)
    (option_map known_view c.args.right)) (sym c.in-Add.is)) (c.computed.ensures.overflow w)

pub returns-in-Sub-clause-overflow : goal.returns-in-Sub-clause-overflow
returns-in-Sub-clause-overflow c = λ w.
    overflow_as w c.computed-in-Sub.result _ _
    (computed_is ◌-ℤ◌ (bounds_of c.sub.result) (range_of c.range_at-from.result)
    (range_of c.range_at-to.result)
    (reach_view c.joined-reach.result) (reach_view c.reach_at.result)
    (reach_view c.reach_at-2.result)
    (option_map known_view c.args.left) (option_map known_view c.args.right)
    c.sub.ensures.corners c.range_at-from.ensures c.range_at-to.ensures c.joined-reach.ensures
    c.reach_at.ensures c.reach_at-2.ensures
    ∙ ap (λ o. answer_known o (option_map known_view c.args.left)
    (option_map known_view c.args.right)) (sym c.in-Sub.is)) (c.computed-in-Sub.ensures.overflow w)

pub returns-in-Mul-clause-overflow : goal.returns-in-Mul-clause-overflow
returns-in-Mul-clause-overflow c = λ w.
    overflow_as w c.computed-in-Mul.result _ _
    (computed_is ◌*ℤ◌ (bounds_of c.mul.result) (range_of c.range_at-from.result)
    (range_of c.range_at-to.result)
    (reach_view c.joined-reach.result) (reach_view c.reach_at.result)
    (reach_view c.reach_at-2.result)
    (option_map known_view c.args.left) (option_map known_view c.args.right)
    c.mul.ensures.corners c.range_at-from.ensures c.range_at-to.ensures c.joined-reach.ensures
    c.reach_at.ensures c.reach_at-2.ensures
    ∙ ap (λ o. answer_known o (option_map known_view c.args.left)
    (option_map known_view c.args.right)) (sym c.in-Mul.is)) (c.computed-in-Mul.ensures.overflow w)
