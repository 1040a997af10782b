use Rattle.cat_engine.proofs.GoodStates.{taken_stands}
use Rattle.cat_engine.proofs.laws.taken_roles_are_those_that_stand.Goals as goal

pub returns : goal.returns
returns c = taken_stands
