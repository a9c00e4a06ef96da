use Rattle.star_group.proofs.Common.{◌≡◌, drop, word_from}
use Rattle.star_group.proofs.keyed.trie.word_of.Given as goal

abbrev pub invariant-loop-index : goal.invariant-loop-index
invariant-loop-index l = word_from l.word (drop l.index l.key) ≡ word_from 0 l.key
