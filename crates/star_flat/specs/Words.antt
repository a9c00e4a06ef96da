-- Numbers in words of one width.
use Rattle.std.specs.Prelude.{ℕ, ℤ, List, map, pos, ◌-ℤ◌}
use Rattle.star_flat.specs.{declared.words.SignedWords.SignedWords, declared.words.SignedWords.TheVariants.Bits8, declared.words.SignedWords.TheVariants.Bits16, declared.words.SignedWords.TheVariants.Bits32, declared.words.SignedWords.TheVariants.Bits64}

-- the number that a word is that was counted from this far below 0
abbrev pub less : ℕ → ℕ → ℤ
less half word = pos word -ℤ pos half

abbrev pub numbers_in : SignedWords → List ℤ
numbers_in (Bits8 words) = map (less 0x80) words.items
numbers_in (Bits16 words) = map (less 0x8000) words.items
numbers_in (Bits32 words) = map (less 0x80000000) words.items
numbers_in (Bits64 words) = words.items
