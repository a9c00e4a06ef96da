use Rattle.std.{proofs.Common.{◌≡◌, length, map, take, vec_len, vec_capacity, slice_index}, specs.Int.RustNames.unsigned_abs}
use Rattle.star_column.proofs.coding.read_at.Given as goal

abbrev pub invariant-loop-word : goal.invariant-loop-word
invariant-loop-word g l = record {
  values : map g.W.Word.number l.found.items
      ≡ map (λ word. slice_index l.codes (unsigned_abs (g.S.SignedWord.number word)))
      (take l.word-index l.words);
  pushed : vec_len l.found ≡ l.word-index;
  room : vec_capacity l.found ≡ length l.words;
}
