use Rattle.std.proofs.Common.{refl, inl}
use Rattle.std.proofs.lemmas.Bool.{false≢true}
use Rattle.role_graph.proofs.LoopLemmas.{join}
use Rattle.edit_rules.proofs.OwnerLemmas.{found_role, acts_by_role}
use Rattle.edit_rules.proofs.owners.acts_for.Goals as goal

pub returns-then-same : goal.returns-then-same
returns-then-same c = (λ _. inl (c.if-same.ensures.0 refl), λ _. refl)

pub returns : goal.returns
returns c =
    let role = found_role c.args.c.now.items c.args.who.now c.in_ok-role.field-0 c.in-Some.role c.in-Some.is c.in_ok-role.ensures.found in
    join c.reaches_by.ensures.answer (acts_by_role c.args.c.now.items c.args.who.now c.in-Some.role c.args.name.now role (λ e. false≢true (c.if-same.ensures.1 e)))
