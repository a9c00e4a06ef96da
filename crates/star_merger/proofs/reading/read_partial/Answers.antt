use Rattle.std.proofs.Common.{◌∙◌, ap, rules, subst}
use Rattle.star_partial.specs.Text.{partial_text}
use Rattle.star_merger.specs.{Columns.column_kinds, Columns.column_names, Spelled.IsSpelled}
use Rattle.star_merger.proofs.reading.read_partial.Goals as goal

pub returns-clause-text : goal.returns-clause-text
returns-clause-text c =
    c.in_ok-compare.ensures ∙ c.deref-2.ensures.value ∙ c.in_ok-written.ensures
    ∙ ap (partial_text c.args.query.now) c.in_ok-whole.ensures

pub returns-clause-spelled : goal.returns-clause-spelled
returns-clause-spelled c =
    subst (IsSpelled (column_names c.args.columns.now) (column_kinds c.args.columns.now))
    c.in_ok-whole.ensures (search rules)
