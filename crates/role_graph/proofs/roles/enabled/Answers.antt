use Rattle.std.proofs.Common.{refl}
use Rattle.role_graph.proofs.NameLemmas.{enabled_names}
use Rattle.role_graph.proofs.roles.enabled.Goals as goal

pub roles_from-requires : goal.roles_from-requires
roles_from-requires c = rw c.reaches_by.ensures.room c.in_ok-walk.ensures

pub returns : goal.returns
returns c = rw c.in-Some.is (enabled_names _ _ _ _ _ (c.if-not-reaches_by.ensures.answer.0 refl) c.in_ok-names.ensures.names c.in_ok-put_name.ensures.order c.in_ok-put_name.ensures.members)
