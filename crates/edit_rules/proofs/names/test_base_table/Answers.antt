use Rattle.std.proofs.Common.{refl, inl}
use Rattle.std.proofs.lemmas.Bool.{false≢true}
use Rattle.edit_rules.specs.Names.{unknown_base_table}
use Rattle.edit_rules.proofs.FirstLaws.{passes_one}
use Rattle.edit_rules.proofs.names.test_base_table.Goals as goal

pub returns-then-is_base_table : goal.returns-then-is_base_table
returns-then-is_base_table c = (passes_one (unknown_base_table c.args.c.now.items c.args.table.now) (λ refusal r. r.0 (c.if-is_base_table.ensures.0 refl)), tt)

pub returns : goal.returns
returns c = rw c.in_ok-path.ensures (inl ((λ has. false≢true (c.if-is_base_table.ensures.1 has)), refl), tt)
