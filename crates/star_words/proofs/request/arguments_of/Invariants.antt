use Rattle.std.proofs.Common.{drop, map, string_bytes}
use Rattle.star_words.proofs.Arguments.{IsPartway}
use Rattle.star_words.proofs.request.arguments_of.Given as goal

abbrev pub invariant-loop-word : goal.invariant-loop-word
invariant-loop-word l = IsPartway (map string_bytes l.fn.words)
    (map string_bytes (drop l.word-index l.words)) l.arguments
