use Rattle.std.proofs.Common.{◌≡◌, length, map, take, vec_len, vec_capacity}
use Rattle.star_column.specs.Private.Words.{numbers_above}
use Rattle.star_column.proofs.words.differences.Given as goal

abbrev pub invariant-loop-number : goal.invariant-loop-number
invariant-loop-number g l = record {
  packed : numbers_above l.low (map g.W.Word.number l.words.items)
      ≡ map g.S.SignedWord.number (take l.number-index l.numbers);
  pushed : vec_len l.words ≡ l.number-index;
  room : vec_capacity l.words ≡ length l.numbers;
}
