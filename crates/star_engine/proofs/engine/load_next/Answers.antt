use Rattle.star_engine.proofs.engine.load_next.Goals as goal

pub returns : goal.returns
returns c = λ most texts text is. (
  c.in_ok-with_lineorder.ensures.loadable most texts text is,
  c.in_ok-with_lineorder.ensures.rows most texts text is,
)
