use Rattle.std.proofs.Common.{◌∙◌, ap, inl, inr, refl}
use Rattle.star_catalogue.specs.Load.{fault_of_read}
use Rattle.star_catalogue.proofs.table.answer_of.Goals as goal

pub returns-in-Ok : goal.returns-in-Ok
returns-in-Ok c = λ most text given.
    rw given.whole
    (c.in-Ok.ensures.read c.args.table most given.parts given.left
    (rw c.into_inner.ensures given.read))

pub returns-in-Err : goal.returns-in-Err
returns-in-Err c = λ most text given.
    elim (c.in-Err.ensures.refused c.args.table most given.parts given.left
    (rw c.into_inner.ensures given.read)) [
      | inl memory ↦ inl (c.of_read.ensures ∙ ap (fault_of_read c.args.table) memory)
      | inr first ↦ inr (rw (given.whole, first.0, c.of_read.ensures) refl)
    ]
