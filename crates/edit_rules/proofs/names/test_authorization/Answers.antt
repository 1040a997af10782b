use Rattle.std.proofs.Common.{refl, inl}
use Rattle.std.proofs.lemmas.Bool.{false≢true}
use Rattle.edit_rules.specs.Names.{unknown_authorization}
use Rattle.edit_rules.proofs.FirstLaws.{passes_one}
use Rattle.edit_rules.proofs.names.test_authorization.Goals as goal

pub returns-then-is_authorization : goal.returns-then-is_authorization
returns-then-is_authorization c = (passes_one (unknown_authorization c.args.c.now.items c.args.name.now) (λ refusal r. r.0 (c.if-is_authorization.ensures.0 refl)), tt)

pub returns : goal.returns
returns c = rw (c.one-path.ensures, c.in_ok-copy.ensures) (inl ((λ has. false≢true (c.if-is_authorization.ensures.1 has)), refl), tt)
