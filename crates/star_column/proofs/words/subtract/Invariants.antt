-- The differences so far; those behind them are as they were.
use Rattle.std.proofs.Common.{◌≡◌, drop, length, map, take}
use Rattle.star_column.specs.Private.Words.{numbers_above}
use Rattle.star_column.proofs.words.subtract.Given as goal

abbrev pub invariant-loop-word : goal.invariant-loop-word
invariant-loop-word g l = record {
  done : numbers_above (g.S.SignedWord.number l.least)
      (map g.S.OffsetWord.distance (take l.word-index l.words))
      ≡ map g.S.SignedWord.number (take l.word-index l.initial.words);
  later : drop l.word-index l.words ≡ drop l.word-index l.initial.words;
  long : length l.words ≡ length l.initial.words;
}
