use Rattle.star_engine.proofs.engine.load_read.Goals as goal

pub returns : goal.returns
returns c = λ most texts are.
    (c.in_ok-finish.ensures.loadable most texts are, c.in_ok-finish.ensures.rows most texts are)
