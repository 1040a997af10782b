use Rattle.std.proofs.Common.{inl, refl}
use Rattle.std.proofs.lemmas.Bool.{false≢true}
use Rattle.edit_rules.proofs.OwnerLemmas.{role_grants, role_wanting, user_grants}
use Rattle.edit_rules.proofs.owners.grantor_of.Goals as goal

pub returns-then-not-is_role_named : goal.returns-then-not-is_role_named
returns-then-not-is_role_named c = user_grants c.args.c.now.items c.args.who.now c.args.by c.in_ok-copy.field-0 c.in_ok-copy.ensures (λ e. false≢true (c.if-not-is_role_named.ensures.1 e))

pub returns-in-Some : goal.returns-in-Some
returns-in-Some c = role_grants c.args.c.now.items c.args.who.now c.args.by c.in_ok-role.field-0 c.in-Some.role (c.if-not-is_role_named.ensures.0 refl) c.in-Some.is c.in_ok-role.ensures.found
