use Rattle.std.proofs.Common.{◌∙◌}
use Rattle.star_verify.proofs.Common.{table_of, text_bounds}
use Rattle.star_verify.proofs.facts.column_bounds.Goals as goal

pub returns-then-is_text : goal.returns-then-is_text
returns-then-is_text c = c.point.ensures
    ∙ text_bounds c.args.catalogue.now c.args.column (c.is_text.ensures.0 c.if-is_text.true)
    (c.law.ensures.rows (table_of c.args.column))
