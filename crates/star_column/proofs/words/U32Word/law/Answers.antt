use Rattle.std.specs.Int.{w32}
use Rattle.star_column.proofs.Masks.{all_fit}
use Rattle.star_column.proofs.words.U32Word.law.Goals as goal

pub returns : goal.returns
returns c = all_fit w32 c.args.words.now c.type_inv.words
