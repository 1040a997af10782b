use Rattle.std.proofs.Common.{◌↔◌, take, sym, subst}
use Rattle.std.specs.List.{Contains}
use Rattle.cat_items.specs.declared.item.Item.{Item}
use Rattle.edit_rules.proofs.Lists.{take_next, take_whole}
use Rattle.grant_edit.specs.Grants.{IsGrant}
use Rattle.grant_edit.specs.Named.{named_grantees}
use Rattle.grant_edit.proofs.RightLemmas.{of_one_more}
use Rattle.grant_edit.proofs.rights.grants.Goals as goal

pub loop-need-preserved : goal.loop-need-preserved
loop-need-preserved c =
    let needs = c.args.needs.now.items in
    let whom = named_grantees c.args.grantees.now in
    let new = c.put_privilege.new.items.items in
    let next = take_next needs c.deref-need-items.result.now c.loop-need.need-index c.deref-need-items.ensures.value c.need-item.result c.loop-need-test.true c.need-item.is in
    record {
      order = c.in_ok-put_privilege.ensures.order;
      members = subst (λ l. (y : Item) → Contains new y ↔ IsGrant (Contains l) c.args.grantor.now whom c.args.option y) (sym next)
          (of_one_more c.args.grantor.now c.args.option (take c.loop-need.need-index needs) c.need-item.result whom c.loop-need.items.items new c.loop-need.invariant.members c.in_ok-put_privilege.ensures.members);
    }

pub returns-clause-members : goal.returns-clause-members
returns-clause-members c =
    subst (λ l. (y : Item) → Contains c.loop-need.items.items y ↔ IsGrant (Contains l) c.args.grantor.now (named_grantees c.args.grantees.now) c.args.option y)
    (take_whole c.args.needs.now.items c.deref-need-items.result.now c.loop-need.need-index c.deref-need-items.ensures.value c.loop-need-test.false) c.loop-need.invariant.members
