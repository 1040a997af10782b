use Rattle.std.proofs.Common.{inl, refl}
use Rattle.std.proofs.lemmas.Bool.{both_ways}
use Rattle.edit_rules.proofs.OwnerLemmas.{others_schema, unowned}
use Rattle.edit_rules.proofs.owners.test_owner.Goals as goal
use Rattle.edit_rules.proofs.owners.test_owner.Goals.{in-Some+in_ok-acts_for+else-branch, in_default}

pub returns : goal.returns
returns c = rw c.in_ok-schema.ensures (
  inl (
    elim c.match-owner_of.branch [
      | in-Some+in_ok-acts_for+else-branch w ↦ others_schema c.args.c.now.items c.args.who.now c.args.schema.now w.in-Some.owner.now c.items.ensures.order w.in-Some.ensures.found (λ acts. both_ways _ w.if-branch.false (w.in_ok-acts_for.ensures.1 acts))
      | in_default w ↦ unowned c.args.c.now.items c.args.who.now c.args.schema.now w.in_default.ensures.none
    ],
    refl,
  ),
  tt,
)
