use Rattle.std.proofs.Common.{◌≡◌, ◌<◌, FitsSigned, w64, None, ap, length, to_z-of_z, rules, subst, sym, ◌∙◌}
use Rattle.star_verify.proofs.{Common.{Assign, IsMade, Operation, aggregate_in_group, group_at, known_view, only, operation_known, range_of, range_reason, reach_of, read_range}, Made.{made_as, read_as}, Overflows.fitting}
use Rattle.star_safety.specs.Ranges as ranges
use Rattle.star_verify.proofs.operations.make.Goals as goal

pub read_total-requires-clause-there : goal.read_total-requires-clause-there
read_total-requires-clause-there c =
    let group : c.in-Read.group < length c.args.parts.now.groups = search rules in
    let aggregate : c.in-Read.aggregate
    < length (group_at c.args.parts.now c.in-Read.group).aggregates = search rules in
    c.requires.there c.in-Read.group c.in-Read.aggregate group aggregate

pub returns-in-Const : goal.returns-in-Const
returns-in-Const c = λ w x target facts known shares.
    let fits : FitsSigned w64 c.in-Const.number = search rules in
    let range : range_of c.point.result ≡ only c.in-Const.number = search rules in
    subst (λ (o : Operation). (known_view c.given.result ≡ operation_known w c.args.parts.now x o)
    × (range_reason w c.args.parts.now x (Assign target o) ≡ None)) (sym c.in-Const.is)
    (c.given.ensures ∙ ap (λ r. ranges.known_number r) range, fitting w _ _ (fits, fits))

pub returns-in-Load : goal.returns-in-Load
returns-in-Load c = λ w x target facts known shares.
    subst (λ (o : Operation). (known_view c.loaded.result ≡ operation_known w c.args.parts.now x o)
    × (range_reason w c.args.parts.now x (Assign target o) ≡ None)) (sym c.in-Load.is)
    (c.loaded.ensures w facts)

pub returns-in-Binary : goal.returns-in-Binary
returns-in-Binary c = λ w x target facts known shares.
    let left = c.known_at.ensures ∙ (λ i. known i c.in-Binary.left) in
    let right = c.known_at-in-Binary.ensures ∙ (λ i. known i c.in-Binary.right) in
    subst (λ (o : Operation).
    IsMade w c.answer.result (operation_known w c.args.parts.now x o)
    (range_reason w c.args.parts.now x (Assign target o))) (sym c.in-Binary.is)
    (made_as w c.answer.result _ _
    (λ i. ranges.answer_known c.in-Binary.operator (left i) (right i))
    c.answer.ensures.made (c.answer.ensures.overflow w))

pub returns-in-Read : goal.returns-in-Read
returns-in-Read c = λ w x target facts known shares.
    let fits : FitsSigned w64 c.in-Read.default = search rules in
    subst (λ (o : Operation).
    IsMade w c.read_total.result (operation_known w c.args.parts.now x o)
    (range_reason w c.args.parts.now x (Assign target o))) (sym c.in-Read.is)
    (read_as w c.read_total.result (reach_of (x.so_far c.in-Read.group c.in-Read.aggregate)) _ _
    (λ i. read_range (aggregate_in_group c.args.parts.now c.in-Read.group c.in-Read.aggregate)
    (x.so_far c.in-Read.group c.in-Read.aggregate) (only (to_z-of_z fits i)))
    (c.read_total.ensures w x shares))
