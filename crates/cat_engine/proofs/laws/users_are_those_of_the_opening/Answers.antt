use Rattle.cat_engine.proofs.GoodStates.{reached_users}
use Rattle.cat_engine.proofs.laws.users_are_those_of_the_opening.Goals as goal

pub returns : goal.returns
returns c = reached_users
