use Rattle.std.proofs.Common.{◌≡◌}
use Rattle.star_flat.specs.{Words.numbers_in, Private.Widths.widenings}
use Rattle.star_flat.proofs.numbers.FlatNumbers.push_wide.Given as goal

abbrev pub invariant-loop-self : goal.invariant-loop-self
invariant-loop-self l = numbers_in l.self-inside.words ≡ numbers_in l.initial.self-inside.words

abbrev pub decreases-loop-self : goal.decreases-loop-self
decreases-loop-self l = widenings l.self-inside.words
