use Rattle.std.proofs.Common.{ap}
use Rattle.cat_items.specs.declared.item.Item.TheVariants.{RoleAuth, RoleAdmin}
use Rattle.edit_rules.proofs.ItemKeys.{one_granted}
use Rattle.role_edit.proofs.RoleLists.{put_auth, put_both}
use Rattle.role_edit.proofs.lists.put_grant.Goals as goal

pub put-requires : goal.put-requires
put-requires c = λ y h e. one_granted y _ tt e

pub put-requires-then-option : goal.put-requires-then-option
put-requires-then-option c = λ y h e. one_granted y _ tt e

pub returns-in_ok-put-2 : goal.returns-in_ok-put-2
returns-in_ok-put-2 c = put_both c.args.grantor.now c.args.role.now c.args.grantee.now c.args.option c.args.added.now.items c.put.new.items.items c.put-then-option.new.items.items
    (RoleAuth c.in_ok-grant.field-0) (RoleAdmin c.in_ok-grant-2.field-0) c.if-option.true (ap RoleAuth c.in_ok-grant.ensures) (ap RoleAdmin c.in_ok-grant-2.ensures) c.in_ok-put.ensures.members c.in_ok-put-2.ensures.members

pub returns-else-option : goal.returns-else-option
returns-else-option c = put_auth c.args.grantor.now c.args.role.now c.args.grantee.now c.args.option c.args.added.now.items c.put.new.items.items
    (RoleAuth c.in_ok-grant.field-0) c.if-option.false (ap RoleAuth c.in_ok-grant.ensures) c.in_ok-put.ensures.members
