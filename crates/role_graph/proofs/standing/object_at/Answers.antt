use Rattle.std.proofs.Common.{sym}
use Rattle.cat_items.proofs.PathLemmas.{two_names}
use Rattle.role_graph.proofs.standing.object_at.Goals as goal

pub returns-in-Some-Some-None-clause-found : goal.returns-in-Some-Some-None-clause-found
returns-in-Some-Some-None-clause-found c =
    let a = c.in-Some-Some-None in
    rw c.in-Path.is (sym (two_names c.in-Path.path.now a.schema.now a.name.now a.ensures a.ensures' a.ensures''))
