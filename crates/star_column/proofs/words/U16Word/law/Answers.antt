use Rattle.std.specs.Int.{w16}
use Rattle.star_column.proofs.Masks.{all_fit}
use Rattle.star_column.proofs.words.U16Word.law.Goals as goal

pub returns : goal.returns
returns c = all_fit w16 c.args.words.now c.type_inv.words
