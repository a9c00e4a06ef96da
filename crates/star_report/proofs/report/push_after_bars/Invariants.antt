use Rattle.std.proofs.Common.{◌∷◌}
use Rattle.star_report.proofs.Parts.{HasGrown}
use Rattle.star_report.proofs.report.push_after_bars.Given as goal

abbrev pub invariant-loop-field : goal.invariant-loop-field
invariant-loop-field g l =
    HasGrown (λ field. 124 ∷ g.F.Field.printed field) l.fields l.field-index l.fn.text.items
    l.text.items
