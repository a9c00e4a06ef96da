use Rattle.std.proofs.Common.{◌==◌, ◌∙◌, not, add-one, sym}
use Rattle.star_program.proofs.Text.{Positions.position-None, WordLemmas.first_cut, WordLemmas.first_last, WordLemmas.first_quoted, WordLemmas.spaces_alone}
use Rattle.star_program.proofs.spelling.lines.split_word.Goals as goal

pub returns-in_err-start-clause-word : goal.returns-in_err-start-clause-word
returns-in_err-start-clause-word c =
    rw c.from_residual.ensures
    (spaces_alone c.args.line.now (position-None (λ b. not (b == 32)) c.args.line.now 0
    (sym c.word_start.ensures ∙ c.in_err-start.was)))

pub returns-in_default-clause-word : goal.returns-in_default-clause-word
returns-in_default-clause-word c =
    first_last c.args.line.now c.in_ok-start.start c.from_index-rest.result.now
    (sym c.word_start.ensures ∙ c.in_ok-start.was) c.from_index-rest.ensures
    (sym c.word_end.ensures ∙ c.in_default.is)

pub returns-then-rest-end-eq32-clause-word : goal.returns-then-rest-end-eq32-clause-word
returns-then-rest-end-eq32-clause-word c =
    rw (c.from_index.ensures, add-one)
    (first_cut c.args.line.now c.in_ok-start.start c.from_index-rest.result.now c.in-Some.end
    (sym c.word_start.ensures ∙ c.in_ok-start.was) c.from_index-rest.ensures
    (sym c.word_end.ensures ∙ c.in-Some.is) c.if-rest-end-eq32.true)

pub returns-else-rest-end-eq32-clause-word : goal.returns-else-rest-end-eq32-clause-word
returns-else-rest-end-eq32-clause-word c =
    first_quoted c.args.line.now c.in_ok-start.start c.from_index-rest.result.now c.in-Some.end
    (sym c.word_start.ensures ∙ c.in_ok-start.was) c.from_index-rest.ensures
    (sym c.word_end.ensures ∙ c.in-Some.is) c.if-rest-end-eq32.false
