use Rattle.std.proofs.Common.{inr, sym, ◌∙◌, arith}
use Rattle.star_reader.proofs.PassedOn.{passed_on}
use Rattle.star_reader.proofs.TableSteps as steps
use Rattle.star_reader.proofs.line.add_row.Goals as goal

pub returns-then-is_empty : goal.returns-then-is_empty
returns-then-is_empty c = λ table from before all rest h.
    rw (steps.empty_line c.args.line.now rest (sym c.is_empty.ensures ∙ c.if-is_empty.true)) at h

pub returns-then-start-most : goal.returns-then-start-most
returns-then-start-most c = λ table from before all rest h.
    inr (steps.too_many
    (rw (steps.filled_line c.args.line.now rest (sym c.is_empty.ensures
    ∙ c.if-is_empty.false)) at h)
    c.if-start-most.true)

pub returns-in_err-add_line : goal.returns-in_err-add_line
returns-in_err-add_line c = λ table from before all rest h.
    passed_on _ _ _ c.in_err-add_line.ensures c.from_residual.ensures.1
    (steps.faulty
    (rw (steps.filled_line c.args.line.now rest (sym c.is_empty.ensures
    ∙ c.if-is_empty.false)) at h)
    (omega (arith, c.if-start-most.false)))

pub returns : goal.returns
returns c = λ table from before all rest h.
    steps.more
    (rw (steps.filled_line c.args.line.now rest (sym c.is_empty.ensures
    ∙ c.if-is_empty.false)) at h)
    (omega (arith, c.if-start-most.false)) c.in_ok-add_line.ensures
