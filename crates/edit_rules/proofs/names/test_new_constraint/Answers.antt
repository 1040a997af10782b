use Rattle.std.proofs.Common.{refl, inl}
use Rattle.std.proofs.lemmas.Bool.{false≢true}
use Rattle.edit_rules.specs.Names.{constraint_exists}
use Rattle.edit_rules.proofs.FirstLaws.{passes_one}
use Rattle.edit_rules.proofs.names.test_new_constraint.Goals as goal

pub returns-then-not-is_constraint : goal.returns-then-not-is_constraint
returns-then-not-is_constraint c = (passes_one (constraint_exists c.args.c.now.items c.args.name.now) (λ refusal r. false≢true (c.if-not-is_constraint.ensures.1 r.0)), tt)

pub returns : goal.returns
returns c = rw c.in_ok-path.ensures (inl (c.if-not-is_constraint.ensures.0 refl, refl), tt)
