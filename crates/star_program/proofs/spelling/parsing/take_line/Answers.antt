use Rattle.std.proofs.Common.{◌∙◌, sym}
use Rattle.star_program.proofs.Text.PassedLines.{blank_passed}
use Rattle.star_program.proofs.spelling.parsing.take_line.Goals as goal

pub returns-then-is_blank : goal.returns-then-is_blank
returns-then-is_blank c =
    blank_passed c.args.state c.args.draft.now c.args.line c.args.text.now
    (sym c.is_blank.ensures ∙ c.if-is_blank.true) c.requires
