use Rattle.finite_chains.proofs.Chains.{HasSurvivors-from_rounds}
use Rattle.finite_chains.proofs.laws.rounds_find_survivors.Goals as goal

pub returns : goal.returns
returns g c = λ monotone items found sound closed. HasSurvivors-from_rounds g.S.Support.supports monotone items found sound closed
