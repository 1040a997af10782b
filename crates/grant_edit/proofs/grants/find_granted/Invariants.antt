use Rattle.std.proofs.Common.{◌≡◌, ◌↔◌, take}
use Rattle.std.specs.List.{Contains}
use Rattle.cat_items.specs.declared.need.Need.{Need}
use Rattle.grant_edit.specs.Grants.{AllGranted, IsToBeGranted}
use Rattle.grant_edit.proofs.grants.find_granted.Given as goal

abbrev pub invariant-loop-need : goal.invariant-loop-need
invariant-loop-need l = record {
  room : l.walk ≡ l.initial.walk;
  members : (need : Need) → Contains l.needs.items need ↔ IsToBeGranted l.c.items l.grantor l.object (take l.need-index l.named.items) need;
  all : AllGranted l.c.items l.grantor (take l.need-index l.named.items) l.all;
}
