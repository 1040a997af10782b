-- Statements that drop: their refusals, and what they take.
use Rattle.std.specs.Prelude.{List, []}
use Rattle.sql_tree.specs.declared.statement.DropKind.{DropKind}
use Rattle.sql_tree.specs.declared.statement.DropKind.TheVariants.{Domain}
use Rattle.sql_tree.specs.declared.statement.Statement.{Statement}
use Rattle.sql_tree.specs.declared.statement.Statement.TheVariants.{DropObject, DropRole}
use Rattle.cat_items.specs.declared.edit.Edit.{Edit}
use Rattle.cat_items.specs.declared.edit.Refusal.{Refusal}
use Rattle.cat_items.specs.declared.edit.Who.{Who}
use Rattle.cat_items.specs.declared.item.Item.{Item}
use Rattle.edit_rules.specs.Names.{object_in}
use Rattle.drop_edit.specs.DroppedObjects.{IsObjectDrop, drop_object_refusals}
use Rattle.drop_edit.specs.DroppedRoles.{drop_role_refusals, IsRoleDrop}

-- the kinds of objects whose DROP only takes: all but domains
abbrev pub OnlyTakes : DropKind → Type 0
OnlyTakes Domain = ⊥
OnlyTakes kind = Unit {0}

abbrev pub IsBuiltDrop : Statement → Type 0
IsBuiltDrop (DropObject d) = OnlyTakes d.kind
IsBuiltDrop (DropRole role) = Unit {0}
IsBuiltDrop statement = ⊥

-- the refusals by names, owners and admin options, in their order
abbrev pub drop_refusals : List Item → Who → Statement → List (Refusal → Type 0)
drop_refusals c who (DropObject d) = drop_object_refusals c who d.kind d.object
drop_refusals c who (DropRole role) = drop_role_refusals c who role
drop_refusals c who statement = []

-- the edit that the statement makes
abbrev pub IsDrop : List Item → Who → Statement → Edit → Type 0
IsDrop c who (DropObject d) edit = IsObjectDrop c d.kind (object_in who.schema d.object) edit
IsDrop c who (DropRole role) edit = IsRoleDrop c role edit
IsDrop c who statement edit = ⊥
