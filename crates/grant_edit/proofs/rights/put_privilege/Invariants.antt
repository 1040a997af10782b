use Rattle.std.proofs.Common.{◌≡◌, ◌⊎◌, ◌↔◌, take}
use Rattle.std.specs.List.{Contains}
use Rattle.cat_items.specs.declared.item.Item.{Item}
use Rattle.cat_items.specs.Catalogues.{IsInOrder}
use Rattle.grant_edit.specs.Grants.{IsGrant}
use Rattle.grant_edit.specs.Named.{named_grantees}
use Rattle.grant_edit.proofs.rights.put_privilege.Given as goal

abbrev pub invariant-loop-grantee : goal.invariant-loop-grantee
invariant-loop-grantee l = record {
  order : IsInOrder l.items.items;
  members : (y : Item) → Contains l.items.items y ↔ (Contains l.initial.items.items y ⊎ IsGrant (λ n. n ≡ l.need) l.grantor (named_grantees (take l.grantee-index l.grantees)) l.option y);
}
