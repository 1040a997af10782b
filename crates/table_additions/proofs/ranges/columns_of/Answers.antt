use Rattle.std.proofs.Common.{◌↔◌, subst}
use Rattle.std.specs.List.{Contains}
use Rattle.sql_names.specs.declared.object.Object.{Object}
use Rattle.cat_items.specs.declared.item.Item.{Item}
use Rattle.cat_items.specs.Shape.{IsColumnOf}
use Rattle.table_additions.proofs.ranges.columns_of.Goals as goal

pub returns-clause-members : goal.returns-clause-members
returns-clause-members c = subst (λ (o : Object). (x : Item) → Contains c.items_in.result.now x ↔ (Contains c.args.c.now.items x × IsColumnOf o x)) c.into.ensures c.items_in.ensures.members
