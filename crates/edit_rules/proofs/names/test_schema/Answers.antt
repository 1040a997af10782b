use Rattle.std.proofs.Common.{refl, inl}
use Rattle.std.proofs.lemmas.Bool.{false≢true}
use Rattle.edit_rules.specs.Names.{unknown_schema}
use Rattle.edit_rules.proofs.FirstLaws.{passes_one}
use Rattle.edit_rules.proofs.names.test_schema.Goals as goal

pub returns-then-is_schema : goal.returns-then-is_schema
returns-then-is_schema c = (passes_one (unknown_schema c.args.c.now.items c.args.name.now) (λ refusal r. r.0 (c.if-is_schema.ensures.0 refl)), tt)

pub returns : goal.returns
returns c = rw (c.one-path.ensures, c.in_ok-copy.ensures) (inl ((λ has. false≢true (c.if-is_schema.ensures.1 has)), refl), tt)
