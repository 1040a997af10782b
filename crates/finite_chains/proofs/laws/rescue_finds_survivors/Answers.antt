use Rattle.finite_chains.proofs.Cascades.{rescued_survivors}
use Rattle.finite_chains.proofs.laws.rescue_finds_survivors.Goals as goal

pub returns : goal.returns
returns g c = λ known old new standing laws after before rescued. rescued_survivors g.C.Change.before g.C.Change.after g.C.Change.concerns g.C.Change.suspect known old new laws after before standing rescued
