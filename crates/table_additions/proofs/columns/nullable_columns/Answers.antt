use Rattle.cat_items.specs.declared.item.Item.{Item}
use Rattle.cat_items.specs.Shape.{IsColumnOf}
use Rattle.edit_rules.specs.Chosen.{AreChosen}
use Rattle.std.proofs.Common.{List}
use Rattle.table_needs.proofs.NeedLemmas.{if_ok}
use Rattle.table_additions.specs.Additions.{IsMadeNotNull}
use Rattle.table_additions.proofs.AddedItems.{nullable_lies}
use Rattle.table_additions.proofs.RangeLists.{chosen_of_range}
use Rattle.table_additions.proofs.columns.nullable_columns.Goals as goal

pub returns : goal.returns
returns c =
    let items = c.args.c.now.items in
    let table = c.args.table.now in
    let P : Item → Type 0 = IsMadeNotNull table c.args.parts.now in
    if_ok c.chosen_of.result (λ (found : List Item). AreChosen c.columns_of.result.now P found) (λ (found : List Item). AreChosen items P found)
    (λ found chosen. chosen_of_range items c.columns_of.result.now found (IsColumnOf table) P c.columns_of.ensures.members (nullable_lies table c.args.parts.now) chosen) c.chosen_of.ensures
