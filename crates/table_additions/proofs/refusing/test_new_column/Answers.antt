use Rattle.std.proofs.Common.{refl, inl}
use Rattle.std.proofs.lemmas.Bool.{false≢true}
use Rattle.edit_rules.proofs.FirstLaws.{passes_one}
use Rattle.table_additions.specs.Additions.{column_exists}
use Rattle.table_additions.proofs.refusing.test_new_column.Goals as goal

pub returns-then-not-has_column : goal.returns-then-not-has_column
returns-then-not-has_column c = (passes_one (column_exists c.args.c.now.items c.args.table.now c.args.name.now) (λ refusal r. false≢true (c.if-not-has_column.ensures.1 r.0)), tt)

pub returns : goal.returns
returns c = rw (c.three-path.ensures, c.in_ok-copy.ensures, c.in_ok-copy-2.ensures, c.in_ok-copy-3.ensures) (inl (c.if-not-has_column.ensures.0 refl, refl), tt)
