use Rattle.star_engine.proofs.engine.Engine.partial.Goals as goal

pub returns : goal.returns
returns c = rw (← c.self.view_is) c.partial_of.ensures
