use Rattle.std.proofs.Common.{sym}
use Rattle.system_rights.specs.Layers.{IsRowOf, IsToOwner, IsSystemRightOn}
use Rattle.system_rights.proofs.Added.{on_ok, added_none, added_same}
use Rattle.system_rights.proofs.Rows.{no_owner, to_owner}
use Rattle.system_rights.proofs.system.put_object.Goals as goal

pub returns-in-None-owner_of : goal.returns-in-None-owner_of
returns-in-None-owner_of c = added_none _ (IsSystemRightOn c.args.c.now.items c.args.x.now) (no_owner c.args.c.now.items c.args.x.now c.in-Some.schema.now (sym c.in-Some.ensures) c.in-None-owner_of.ensures.none)

pub returns-in-Some-owner_of : goal.returns-in-Some-owner_of
returns-in-Some-owner_of c =
    on_ok c.put_rows.result _ _ (added_same c.args.rights.now.items c.put_rows.new.rights.items (IsToOwner c.in-Some-owner_of.owner.now (IsRowOf c.args.c.now.items c.args.x.now)) (IsSystemRightOn c.args.c.now.items c.args.x.now)
    (to_owner c.args.c.now.items c.args.x.now c.in-Some.schema.now c.in-Some-owner_of.owner.now c.requires (sym c.in-Some.ensures) c.in-Some-owner_of.ensures.found))
    c.put_rows.ensures
