use Rattle.std.specs.Int.{w8}
use Rattle.star_column.proofs.Masks.{all_fit}
use Rattle.star_column.proofs.words.U8Word.law.Goals as goal

pub returns : goal.returns
returns c = all_fit w8 c.args.words.now c.type_inv.words
