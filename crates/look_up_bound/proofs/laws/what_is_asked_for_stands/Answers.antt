use Rattle.look_up_bound.proofs.Standing.{asked_stands}
use Rattle.look_up_bound.proofs.laws.what_is_asked_for_stands.Goals as goal

pub returns : goal.returns
returns c = λ f. asked_stands f f (λ o k there inside keeps. inside)
