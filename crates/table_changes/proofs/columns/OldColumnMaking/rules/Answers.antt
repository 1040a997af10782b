use Rattle.std.proofs.Common.{refl, inl}
use Rattle.std.proofs.lemmas.Bool.{both_ways}
use Rattle.edit_rules.proofs.FirstLaws.{passes_one}
use Rattle.cat_items.specs.Reach.{Has}
use Rattle.cat_items.specs.declared.edit.Refusal.TheVariants.{OnlyColumn}
use Rattle.statement_steps.specs.Steps.{where_it_is}
use Rattle.table_changes.specs.DroppedColumns.{IsOtherColumn}
use Rattle.table_changes.proofs.PartLemmas.{others_lie}
use Rattle.table_changes.proofs.columns.OldColumnMaking.rules.Goals as goal

pub has_in-requires : goal.has_in-requires
has_in-requires c = let d = c.args.self.now in others_lie c.args.c.now.items d.table d.column.now c.into.result c.into.ensures

pub returns-then-has_in : goal.returns-then-has_in
returns-then-has_in c =
    let d = c.args.self.now in
    (passes_one (where_it_is (¬ (Has c.args.c.now.items (IsOtherColumn d.table d.column.now))) OnlyColumn) (λ refusal r. r.0 (c.has_in.ensures.0 c.if-has_in.true)), c.requires.named)

pub returns : goal.returns
returns c = (inl ((λ has. both_ways _ c.if-has_in.false (c.has_in.ensures.1 has)), refl), tt)
