use Rattle.std.proofs.Common.{◌≡◌, ◌↔◌, ◌⊎◌, subst}
use Rattle.std.specs.List.{Contains}
use Rattle.cat_items.specs.declared.item.Item.{Item}
use Rattle.system_rights.proofs.RightKeys.{found_right}
use Rattle.system_rights.proofs.system.put.Goals as goal

pub put_in-requires-clause-new : goal.put_in-requires-clause-new
put_in-requires-clause-new c = rw c.reserve.ensures.items c.in-None.ensures.none

pub returns-in-Some : goal.returns-in-Some
returns-in-Some c = found_right c.args.rights.now.items c.in-Some.field-0 c.args.right c.requires c.in-Some.ensures.found

pub returns-in_ok-reserve-in-None : goal.returns-in_ok-reserve-in-None
returns-in_ok-reserve-in-None c = subst (λ l. (x : Item) → Contains c.put_in.new.self.items x ↔ (Contains l x ⊎ (x ≡ c.args.right))) c.reserve.ensures.items c.put_in.ensures.members
