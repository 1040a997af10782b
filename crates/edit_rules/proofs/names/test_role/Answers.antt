use Rattle.std.proofs.Common.{refl, inl}
use Rattle.std.proofs.lemmas.Bool.{false≢true}
use Rattle.edit_rules.specs.Names.{unknown_role}
use Rattle.edit_rules.proofs.FirstLaws.{passes_one}
use Rattle.edit_rules.proofs.names.test_role.Goals as goal

pub returns-then-is_role : goal.returns-then-is_role
returns-then-is_role c = (passes_one (unknown_role c.args.c.now.items c.args.name.now) (λ refusal r. r.0 (c.if-is_role.ensures.0 refl)), tt)

pub returns : goal.returns
returns c = rw (c.one-path.ensures, c.in_ok-copy.ensures) (inl ((λ has. false≢true (c.if-is_role.ensures.1 has)), refl), tt)
