use Rattle.role_graph.proofs.LoopLemmas.{join}
use Rattle.edit_rules.proofs.NameLemmas.{user_there}
use Rattle.edit_rules.proofs.names.is_user.Goals as goal

pub returns : goal.returns
returns c = join c.any_in.ensures (user_there c.args.c.now.items c.args.name.now)
