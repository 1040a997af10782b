use Rattle.finite_chains.proofs.Growths.{HasSurvivors-grown}
use Rattle.finite_chains.proofs.laws.growing_chains_find_survivors.Goals as goal

pub returns : goal.returns
returns g c = λ monotone test is_test items. HasSurvivors-grown g.S.Support.supports test is_test monotone items
