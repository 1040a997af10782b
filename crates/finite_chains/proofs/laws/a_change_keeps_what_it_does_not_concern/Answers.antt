use Rattle.finite_chains.proofs.Cascades.{clear_survives}
use Rattle.finite_chains.proofs.laws.a_change_keeps_what_it_does_not_concern.Goals as goal

pub returns : goal.returns
returns g c = λ known old new laws monotone x stood clear. clear_survives g.C.Change.before g.C.Change.after g.C.Change.concerns g.C.Change.suspect known old new laws monotone x stood clear
