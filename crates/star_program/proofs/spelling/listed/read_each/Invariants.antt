-- What was read, and the words still to come.
use Rattle.std.proofs.Common.{◌≡◌, length}
use Rattle.star_program.{specs.Text.Lines.words_of, specs.Text.Said.each, proofs.Text.ListLemmas.joined}
use Rattle.star_program.proofs.spelling.listed.read_each.Given as goal

abbrev pub invariant-loop-word : goal.invariant-loop-word
invariant-loop-word g l =
    each g.T.Listed.meaning (words_of l.line)
    ≡ joined l.items.items (each g.T.Listed.meaning (words_of l.rest))

abbrev pub decreases-loop-word : goal.decreases-loop-word
decreases-loop-word g l = length l.rest
