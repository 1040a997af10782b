use Rattle.std.proofs.Common.{refl, inl}
use Rattle.std.proofs.lemmas.Bool.{false≢true}
use Rattle.edit_rules.proofs.FirstLaws.{passes_one}
use Rattle.table_changes.specs.DroppedConstraints.{unknown_constraint}
use Rattle.table_changes.proofs.constraints.test_constraint.Goals as goal

pub returns-then-has_in : goal.returns-then-has_in
returns-then-has_in c = (passes_one (unknown_constraint c.args.c.now.items c.args.old.now.table c.args.old.now.constraint.now) (λ refusal r. r.0 (c.if-has_in.ensures.0 refl)), tt)

pub returns : goal.returns
returns c = rw (c.two-path.ensures, c.in_ok-copy.ensures, c.in_ok-copy-2.ensures) (inl ((λ has. false≢true (c.if-has_in.ensures.1 has)), refl), tt)
