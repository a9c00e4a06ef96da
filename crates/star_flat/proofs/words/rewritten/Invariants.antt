use Rattle.std.proofs.Common.{◌≡◌, length, map, take, vec_len, vec_capacity}
use Rattle.star_flat.proofs.words.rewritten.Given as goal

abbrev pub invariant-loop-word : goal.invariant-loop-word
invariant-loop-word g l = record {
  numbers : map g.W.SignedWord.number l.rewritten.items
      ≡ map g.S.SignedWord.number (take l.word-index l.words);
  pushed : vec_len l.rewritten ≡ l.word-index;
  room : vec_capacity l.rewritten ≡ length l.words;
}
