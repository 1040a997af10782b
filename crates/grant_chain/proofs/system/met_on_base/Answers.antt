use Rattle.std.proofs.Common.{◌↔◌, Option, None, sym, subst}
use Rattle.std.specs.Bool.{IsTrue}
use Rattle.sql_names.specs.declared.object.Object.{Object}
use Rattle.cat_items.specs.declared.need.Auth.TheVariants.{Named}
use Rattle.cat_items.specs.Rights.{Met, path_of}
use Rattle.cat_items.specs.SystemRights.{MetOnBase}
use Rattle.role_graph.specs.Judges.{counting}
use Rattle.grant_chain.proofs.system.met_on_base.Goals as goal

pub returns-in-Some-clause-answer : goal.returns-in-Some-clause-answer
returns-in-Some-clause-answer c =
    let s = counting c.args.judge.now in
    let owner = Named c.args.owner.now in
    subst (λ (b : Option Object). IsTrue c.met_by.result ↔ MetOnBase c.args.grantable s owner c.args.action b) (sym c.in-Some.is)
    (subst (λ (o : Object). IsTrue c.met_by.result ↔ Met c.args.grantable s owner (record { action = c.args.action; on = path_of o; column = None })) c.into.ensures c.met_by.ensures.answer)
