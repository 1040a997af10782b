use Rattle.std.proofs.Common.{◌↔◌, ◌∙◌, List, subst, sym}
use Rattle.std.specs.List.{Contains}
use Rattle.cat_items.specs.declared.item.Item.{Item}
use Rattle.cat_items.specs.Catalogues.{IsInOrder}
use Rattle.object_edits.specs.ViewSteps.{IsAmong}
use Rattle.object_edits.proofs.AddedColumns.{no_columns_yet, view_and_columns}
use Rattle.object_edits.proofs.made.items_of.Goals as goal

pub put_columns-requires-clause-new : goal.put_columns-requires-clause-new
put_columns-requires-clause-new c =
    no_columns_yet c.args.view c.in_ok-new.field-0 c.in_ok-table.table c.args.names.now c.args.sorts.now c.of_sorted-added.result.items c.put.new.items.items (c.of_sorted-added.ensures.items ∙ c.new.ensures.items) c.in_ok-new.ensures c.in_ok-put.ensures.members

pub returns : goal.returns
returns c = record {
  order = subst IsInOrder (sym c.from_vec.ensures) c.into_items.ensures.order;
  members = subst (λ (found : List Item). (x : Item) → Contains found x ↔ IsAmong c.args.view c.args.names.now c.args.sorts.now x) (sym (c.from_vec.ensures ∙ c.into_items.ensures.items))
      (view_and_columns c.args.view c.in_ok-new.field-0 c.in_ok-table.table c.args.names.now c.args.sorts.now c.of_sorted-added.result.items c.put.new.items.items (c.of_sorted-added.ensures.items ∙ c.new.ensures.items) c.in_ok-new.ensures c.in_ok-put.ensures.members
      c.put_columns.new.added.items c.in_ok-table.ensures c.in_ok-put_columns.ensures);
}
