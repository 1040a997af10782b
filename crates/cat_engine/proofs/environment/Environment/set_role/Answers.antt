use Rattle.std.proofs.Common.{refl, sym, subst}
use Rattle.edit_rules.specs.First.{First, Passes}
use Rattle.cat_engine.specs.Contents.{Content}
use Rattle.cat_engine.specs.Effects.{ChangesSession}
use Rattle.cat_engine.specs.Refusals.{role_chosen, set_role_refusals}
use Rattle.cat_engine.specs.Sessions.{set_for}
use Rattle.cat_engine.specs.declared.session.Setting.TheVariants.{Role}
use Rattle.cat_engine.proofs.Answering.{role_done}
use Rattle.cat_engine.proofs.environment.Environment.set_role.Goals as goal

pub returns : goal.returns
returns c =
    let before : Content = record { catalogue = c.self.inside.store; sessions = c.self.inside.sessions } in
    let after : Content = record { catalogue = c.self.inside.store; sessions = c.set.new.self } in
    let done = role_done before c.args.number c.in-Some.who.now c.args.choice c.role_chosen-role.result c.set.new.self (sym c.in-Some.ensures) c.role_chosen-role.ensures (rw c.catalogue.ensures.items at c.in_ok-test_role.ensures).0 c.in_ok-set.ensures.ok in
    let whole = subst (λ (old : Content). Passes (First (set_role_refusals c.args.number old c.args.choice)) × ChangesSession c.args.number (λ s. set_for s (Role (role_chosen c.args.choice))) old after) c.self.view_is done in
    (whole.0, (whole.1, refl))
