use Rattle.std.proofs.Common.{◌↔◌, take}
use Rattle.std.specs.List.{Contains}
use Rattle.cat_items.specs.declared.item.Item.{Item}
use Rattle.cat_items.specs.Catalogues.{IsInOrder}
use Rattle.grant_edit.specs.Grants.{IsGrant}
use Rattle.grant_edit.specs.Named.{named_grantees}
use Rattle.grant_edit.proofs.rights.grants.Given as goal

abbrev pub invariant-loop-need : goal.invariant-loop-need
invariant-loop-need l = record {
  order : IsInOrder l.items.items;
  members : (y : Item) → Contains l.items.items y ↔ IsGrant (Contains (take l.need-index l.needs.items)) l.grantor (named_grantees l.grantees) l.option y;
}
