-- The widths of signed words.
use Rattle.std.specs.Prelude.{ℕ}
use Rattle.star_flat.specs.{declared.words.SignedWords.SignedWords, declared.words.SignedWords.TheVariants.Bits8, declared.words.SignedWords.TheVariants.Bits16, declared.words.SignedWords.TheVariants.Bits32, declared.words.SignedWords.TheVariants.Bits64}

-- how often words can be replaced by words twice as wide
abbrev pub widenings : SignedWords → ℕ
widenings (Bits8 words) = 3
widenings (Bits16 words) = 2
widenings (Bits32 words) = 1
widenings (Bits64 words) = 0
