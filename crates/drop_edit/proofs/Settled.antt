-- A statement that drops has at most one refusal, and makes at most one edit.
use Rattle.std.proofs.Common.{◌≡◌, List, [], ◌∷◌, sym, ◌∙◌}
use Rattle.sql_names.specs.declared.column.ObjectName.{ObjectName}
use Rattle.sql_tree.specs.declared.statement.DropKind.{DropKind}
use Rattle.sql_tree.specs.declared.statement.Statement.{Statement}
use Rattle.sql_tree.specs.declared.statement.Statement.TheVariants.{DropObject, DropRole}
use Rattle.cat_items.specs.declared.edit.Edit.{Edit}
use Rattle.cat_items.specs.declared.edit.Who.{Who}
use Rattle.cat_items.specs.declared.item.Item.{Item}
use Rattle.edit_rules.proofs.SettledEdits.{taking_settled}
use Rattle.edit_rules.specs.Names.{object_in}
use Rattle.edit_rules.proofs.FirstLaws.{AreSettled}
use Rattle.edit_rules.proofs.Settled.{lacks_settled}
use Rattle.cat_items.specs.Rights.{admin}
use Rattle.drop_edit.specs.DroppedObjects.{GoesWith, drop_object_refusals}
use Rattle.drop_edit.specs.DroppedRoles.{IsOfRole}
use Rattle.drop_edit.specs.Drops.{IsDrop, drop_refusals}

pub object_refusals_settled : (c : List Item) (who : Who) (kind : DropKind) (name : ObjectName) → AreSettled (drop_object_refusals c who kind name)
object_refusals_settled c who kind name = ((λ a b p q. p.1 ∙ sym q.1), ((λ a b p q. p.1 ∙ sym q.1), tt))

pub drop_settled : (c : List Item) (who : Who) (s : Statement) (a b : Edit) → IsDrop c who s a → IsDrop c who s b → a ≡ b
drop_settled c who (DropObject d) a b p q = taking_settled c (GoesWith d.kind (object_in who.schema d.object)) a b p q
drop_settled c who (DropRole role) a b p q = taking_settled c (IsOfRole role) a b p q
drop_settled c who s a b p q = absurd p

pub drop_refusals_settled : (c : List Item) (who : Who) (s : Statement) → AreSettled (drop_refusals c who s)
drop_refusals_settled c who (DropObject d) = object_refusals_settled c who d.kind d.object
drop_refusals_settled c who (DropRole role) = ((λ a b p q. p.1 ∙ sym q.1), (lacks_settled c who.user (admin role ∷ []), tt))
drop_refusals_settled c who s = tt
