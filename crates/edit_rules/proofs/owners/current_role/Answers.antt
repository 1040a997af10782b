use Rattle.std.proofs.Common.{refl}
use Rattle.std.proofs.lemmas.Bool.{false≢true}
use Rattle.edit_rules.proofs.OwnerLemmas.{no_role_set, no_role_reached}
use Rattle.edit_rules.proofs.owners.current_role.Goals as goal

pub returns-then-not-reaches_by-clause-none : goal.returns-then-not-reaches_by-clause-none
returns-then-not-reaches_by-clause-none c = no_role_reached c.args.c.now.items c.args.who.now c.in-Some.role c.in-Some.is (λ walk. false≢true (c.if-not-reaches_by.ensures.answer.1 walk))

pub returns-clause-found : goal.returns-clause-found
returns-clause-found c = (rw c.in_ok-copy.ensures c.in-Some.is, rw c.in_ok-copy.ensures (c.if-not-reaches_by.ensures.answer.0 refl))
