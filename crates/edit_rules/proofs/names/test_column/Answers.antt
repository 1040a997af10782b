use Rattle.std.proofs.Common.{refl, inl}
use Rattle.std.proofs.lemmas.Bool.{false≢true}
use Rattle.edit_rules.specs.Names.{unknown_column}
use Rattle.edit_rules.proofs.FirstLaws.{passes_one}
use Rattle.edit_rules.proofs.names.test_column.Goals as goal

pub returns-then-has_column : goal.returns-then-has_column
returns-then-has_column c = (passes_one (unknown_column c.args.c.now.items c.args.table.now c.args.name.now) (λ refusal r. r.0 (c.if-has_column.ensures.0 refl)), tt)

pub returns : goal.returns
returns c = rw (c.three-path.ensures, c.in_ok-copy.ensures, c.in_ok-copy-2.ensures, c.in_ok-copy-3.ensures) (inl ((λ has. false≢true (c.if-has_column.ensures.1 has)), refl), tt)
