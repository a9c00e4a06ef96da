use Rattle.std.proofs.Common.{◌∙◌, ◌*◌, ap, subst, sym}
use Rattle.star_verify.{specs.Private.Rows.{AgreeUpTo, lesser}, proofs.RowLemmas.agree_times}
use Rattle.star_verify.proofs.rows.Front.shown.Goals as goal

pub returns-clause-lists : goal.returns-clause-lists
returns-clause-lists c = λ lists agree.
    subst (λ n. AgreeUpTo (n * c.args.values) (lists * c.args.values))
    (sym (c.lesser.ensures ∙ ap (lesser c.args.self.lists) c.from.ensures))
    (agree_times c.args.self.lists lists c.args.values agree)
