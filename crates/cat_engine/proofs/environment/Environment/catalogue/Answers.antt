use Rattle.cat_engine.proofs.environment.Environment.catalogue.Goals as goal

pub returns-clause-good : goal.returns-clause-good
returns-clause-good c = rw (← c.self.view_is) c.catalogue.ensures.good
