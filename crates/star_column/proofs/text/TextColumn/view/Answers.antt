use Rattle.std.proofs.Common.{◌∙◌}
use Rattle.star_column.{specs.Private.Words.numbers_in, proofs.Views.above_codes}
use Rattle.star_column.proofs.text.TextColumn.view.Goals as goal

pub of-requires : goal.of-requires
of-requires c =
    rw (above_codes c.self.inside.dictionary (numbers_in c.self.inside.codes) c.self.invariant.0
    c.bounds.result.low c.args.self.now c.bounds.ensures.low c.self.view_is) c.bounds.ensures.held

pub returns : goal.returns
returns c =
    c.of.ensures
    ∙ above_codes c.self.inside.dictionary (numbers_in c.self.inside.codes) c.self.invariant.0
    c.bounds.result.low c.args.self.now c.bounds.ensures.low c.self.view_is
