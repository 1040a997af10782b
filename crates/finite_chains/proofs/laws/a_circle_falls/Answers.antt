use Rattle.finite_chains.proofs.Chains.{circle_falls}
use Rattle.finite_chains.proofs.laws.a_circle_falls.Goals as goal

pub returns : goal.returns
returns g c = λ circle needs items x is survives. circle_falls g.S.Support.supports circle needs items x is survives
