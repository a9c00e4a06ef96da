use Rattle.star_engine.proofs.engine.Engine.law.Goals as goal

pub returns-clause-of_texts : goal.returns-clause-of_texts
returns-clause-of_texts c = rw (← c.self.view_is) c.self.invariant
