use Rattle.std.proofs.Common.{arith}
use Rattle.star_flat.proofs.words.SignedWords.widened.Goals as goal

pub rewritten-requires : goal.rewritten-requires
rewritten-requires c number fits = record { sfits = omega (arith, fits.sfits) }

pub rewritten-requires-in-Bits16 : goal.rewritten-requires-in-Bits16
rewritten-requires-in-Bits16 c number fits = record { sfits = omega (arith, fits.sfits) }

pub rewritten-requires-in-Bits32 : goal.rewritten-requires-in-Bits32
rewritten-requires-in-Bits32 c number fits = record { sfits = omega (arith, fits.sfits) }
