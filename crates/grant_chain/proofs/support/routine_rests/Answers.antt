use Rattle.std.proofs.Common.{◌↔◌, refl, subst}
use Rattle.std.specs.Bool.{IsTrue}
use Rattle.sql_tree.specs.declared.body.Security.{Security}
use Rattle.cat_items.specs.Supported.{RoutineRests}
use Rattle.role_graph.specs.Judges.{counting}
use Rattle.grant_chain.proofs.support.routine_rests.Goals as goal

pub returns-then-any_in-clause-answer : goal.returns-then-any_in-clause-answer
returns-then-any_in-clause-answer c =
    let s = counting c.args.judge.now in
    subst (λ (k : Security). IsTrue c.all_stand.result ↔ RoutineRests s c.args.routine.now k) c.in-Invoker.ensures
    (λ e. (c.if-any_in.ensures.0 refl, c.all_stand.ensures.0 e), λ h. c.all_stand.ensures.1 h.1)
