use Rattle.std.proofs.Common.{refl, inl}
use Rattle.std.proofs.lemmas.Bool.{false≢true}
use Rattle.edit_rules.specs.Names.{table_exists}
use Rattle.edit_rules.proofs.FirstLaws.{passes_one}
use Rattle.edit_rules.proofs.names.test_new_table.Goals as goal

pub returns-then-not-is_table : goal.returns-then-not-is_table
returns-then-not-is_table c = (passes_one (table_exists c.args.c.now.items c.args.table.now) (λ refusal r. false≢true (c.if-not-is_table.ensures.1 r.0)), tt)

pub returns : goal.returns
returns c = rw c.in_ok-path.ensures (inl (c.if-not-is_table.ensures.0 refl, refl), tt)
