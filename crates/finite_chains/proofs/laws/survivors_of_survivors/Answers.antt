use Rattle.finite_chains.proofs.Chains.{HasSurvivors-part}
use Rattle.finite_chains.proofs.laws.survivors_of_survivors.Goals as goal

pub returns : goal.returns
returns g c = λ items part found agree survivors. HasSurvivors-part g.S.Support.supports g.P.Support.supports items part found agree survivors
