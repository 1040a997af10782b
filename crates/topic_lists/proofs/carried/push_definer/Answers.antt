use Rattle.std.proofs.Common.{subst}
use Rattle.std.specs.Result.{OnOk}
use Rattle.sql_tree.specs.declared.body.Security.{Security}
use Rattle.cat_items.specs.Relevant.{IsRoutineNeed}
use Rattle.topic_keys.specs.Lists.{Gets}
use Rattle.topic_lists.proofs.carried.push_definer.Goals as goal

pub returns-in-Definer : goal.returns-in-Definer
returns-in-Definer c = subst (λ (s : Security). OnOk c.push_listed.result (Gets (IsRoutineNeed c.args.routine.now s) c.args.needs.now.items c.push_listed.new.needs.items)) c.in-Definer.ensures c.push_listed.ensures
