use Rattle.std.proofs.Common.{◌≡◌, ap, sym, subst, ◌∙◌}
use Rattle.std.specs.List.{Contains}
use Rattle.std.specs.declared.cmp.Ordering.TheVariants.{Equal}
use Rattle.cat_items.specs.declared.item.Item.{Item}
use Rattle.cat_items.specs.declared.item.Item.TheVariants as item
use Rattle.cat_items.specs.Order.{item_cmp}
use Rattle.domain_drop.specs.Lists.{IsFreedAt}
use Rattle.domain_drop.proofs.FreedLemmas.{none_put, not_column}
use Rattle.domain_drop.proofs.freeing.put_freed_item.Goals as goal

pub put_freed-requires : goal.put_freed-requires
put_freed-requires c = subst (λ (z : Item). (y : Item) → Contains c.args.added.now.items y → item_cmp y z ≡ Equal → ⊥) (c.in-Column.is ∙ ap item.Column (sym c.get.ensures)) c.requires

pub returns-in-Column : goal.returns-in-Column
returns-in-Column c = rw (c.in-Column.is, ← c.get.ensures) c.put_freed.ensures

pub returns-in_default : goal.returns-in_default
returns-in_default c = none_put c.args.added.now.items (IsFreedAt c.args.c.now.items c.args.x.now) (not_column c.args.c.now.items c.args.x.now c.in_default.not-Column)
