use Rattle.std.proofs.Common.{◌≡◌, ◌↔◌, ◌+◌, length, take}
use Rattle.std.specs.List.{Contains}
use Rattle.cat_items.specs.Catalogues.{IsInOrder, IsUserOf}
use Rattle.cat_items.proofs.catalogue.Catalogue.opening.Given as goal

abbrev pub invariant-loop-name : goal.invariant-loop-name
invariant-loop-name l = record {
  order : IsInOrder l.c.items;
  members : (x : _) → Contains l.c.items x ↔ IsUserOf (take l.name-index l.users.items) x;
  room : l.c.spare + l.name-index ≡ length l.users.items;
}
