use Rattle.star_group.proofs.Common.{◌<◌, arith, pos, replicate, ◌∙◌, get_or-replicate, get_or-take}
use Rattle.star_group.proofs.array_store.cells.ones.Goals as goal

pub returns-clause-words : goal.returns-clause-words
returns-clause-words c = λ row h.
    let few : row < 1024 = omega (arith, h, c.requires) in
    get_or-take c.args.rows (replicate 1024 (pos 1)) row (pos 0) h
    ∙ get_or-replicate 1024 row (pos 1) (pos 0) few
