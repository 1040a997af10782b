use Rattle.look_up_bound.proofs.ViewNeeds.{view_needs}
use Rattle.look_up_bound.proofs.laws.a_view_that_pays_needs_something.Goals as goal

pub returns : goal.returns
returns c = view_needs
