use Rattle.star_words.proofs.Arguments.{ArePartsSoFar}
use Rattle.star_words.proofs.request.parts_of.Given as goal

abbrev pub invariant-loop-word : goal.invariant-loop-word
invariant-loop-word l = ArePartsSoFar l.words l.word-index l.parts.items
