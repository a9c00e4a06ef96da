use Rattle.std.specs.Int.{w64}
use Rattle.star_column.proofs.Masks.{all_fit}
use Rattle.star_column.proofs.words.U64Word.law.Goals as goal

pub returns : goal.returns
returns c = all_fit w64 c.args.words.now c.type_inv.words
