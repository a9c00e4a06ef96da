use Rattle.std.proofs.{Common.{◌==◌, ◌∙◌, add-one, sym}, lemmas.List.Quantifiers.position-Some}
use Rattle.star_program.proofs.Text.{Positions.position-None, LineLemmas.empty_lines, LineLemmas.first_line, LineLemmas.one_line}
use Rattle.star_program.proofs.spelling.lines.split_line.Goals as goal

pub returns-then-is_empty-clause-line : goal.returns-then-is_empty-clause-line
returns-then-is_empty-clause-line c =
    empty_lines c.args.text.now (sym c.is_empty.ensures ∙ c.if-is_empty.true)

pub returns-in-Some-clause-line : goal.returns-in-Some-clause-line
returns-in-Some-clause-line c =
    let at = position-Some (λ b. b == 10) c.args.text.now c.in-Some.end 0 (sym c.in-Some.ensures) in
    rw (c.without_return.ensures, c.from_index.ensures, add-one)
    (first_line c.args.text.now c.in-Some.end at.0 at.1 at.2)

pub returns-in-None-clause-line : goal.returns-in-None-clause-line
returns-in-None-clause-line c =
    one_line c.args.text.now (sym c.is_empty.ensures ∙ c.if-is_empty.false)
    (position-None (λ b. b == 10) c.args.text.now 0 (sym c.in-None.ensures))
