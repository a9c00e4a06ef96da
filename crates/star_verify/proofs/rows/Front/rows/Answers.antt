use Rattle.std.proofs.Common.{[], ◌∙◌, ap, arith, sym}
use Rattle.star_verify.{specs.Private.Rows.{lesser, rows_of_rest}, proofs.RowLemmas.{agree_lesser, hidden_none, shown_none}}
use Rattle.star_verify.proofs.rows.Front.rows.Goals as goal

pub returns-then-self-clause-rows : goal.returns-then-self-clause-rows
returns-then-self-clause-rows c = λ lists agree.
    c.lesser.ensures ∙ ap (λ u. lesser u c.args.self.lists) c.from.ensures
    ∙ agree_lesser c.args.updates c.args.self.lists lists (omega (arith, c.ranges.updates.fits))
    agree
    ∙ sym (shown_none c.args.updates lists)
    ∙ ap (λ b. rows_of_rest c.args.updates b lists []) (sym c.if-self.true)

pub returns-else-self-clause-rows : goal.returns-else-self-clause-rows
returns-else-self-clause-rows c = λ lists agree.
    sym (hidden_none c.args.updates lists)
    ∙ ap (λ b. rows_of_rest c.args.updates b lists []) (sym c.if-self.false)
