use Rattle.std.proofs.Common.{sym}
use Rattle.cat_items.proofs.PathLemmas.{one_name}
use Rattle.role_graph.proofs.standing.role_at.Goals as goal

pub returns-in-Some-None-clause-found : goal.returns-in-Some-None-clause-found
returns-in-Some-None-clause-found c =
    let a = c.in-Some-None in
    rw c.in-Path.is (sym (one_name c.in-Path.path.now a.role.now a.ensures a.ensures'))
