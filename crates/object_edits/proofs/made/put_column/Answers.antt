use Rattle.std.proofs.Common.{◌≡◌, ◌∙◌, subst}
use Rattle.std.proofs.lemmas.Result.{on_ok_weaker}
use Rattle.cat_items.specs.declared.item.Column.{Column}
use Rattle.cat_items.specs.declared.item.Item.TheVariants as item
use Rattle.object_edits.proofs.AddedColumns.{Grows, column_is_new}
use Rattle.object_edits.proofs.made.put_column.Goals as goal

pub put-requires : goal.put-requires
put-requires c = column_is_new c.args.added.now.items c.in_ok-new.field-0 (λ z h. rw (c.in_ok-new.ensures, c.in_ok-column.ensures) (c.requires z h))

pub returns : goal.returns
returns c =
    on_ok_weaker c.put.result (λ grows. subst (λ (k : Column). Grows c.args.added.now.items c.put.new.items.items (λ x. x ≡ item.Column k)) (c.in_ok-new.ensures ∙ c.in_ok-column.ensures) grows) c.put.ensures.members
