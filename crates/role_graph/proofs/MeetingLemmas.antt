-- What lies in a part of the order.
use Rattle.std.proofs.Common.{◌≡◌, ◌↔◌, ℕ, Bool, true, false, List, [], ◌∷◌, sym, ap, refl}
use Rattle.sql_names.specs.declared.object.Object.{Object}
use Rattle.sql_tree.specs.declared.rights.Action.{Action}
use Rattle.sql_tree.specs.declared.rights.Action.TheVariants as action
use Rattle.cat_items.specs.declared.need.Auth.{Auth}
use Rattle.cat_items.specs.declared.need.Need.{Need}
use Rattle.cat_items.specs.declared.item.Item.{Item}
use Rattle.cat_items.specs.declared.item.Item.TheVariants as item
use Rattle.cat_items.specs.Ranges.{IsAdminOptionOf, IsHeldOf, IsGrantableOf}
use Rattle.cat_items.specs.Reach.{Has}
use Rattle.cat_items.specs.Rights.{path_of, IsSchema, IsColumn, IsObject, Stands, IsRightFor, IsAdminFor, MetBy, MeetsAll}
use Rattle.cat_items.specs.Shape.{IsColumnOf}
use Rattle.role_graph.specs.Loops.{IsColumnNamed, IsReached}

pub same_object : (a b : Object) → path_of a ≡ path_of b → b ≡ a
same_object a b e =
    let schemas : a.schema ≡ b.schema = cc in
    let names : a.name ≡ b.name = cc in
    λ i. record { schema = sym schemas i; name = sym names i }

pub column_there : (o : Object) (name : List ℕ) (y : Item) → (IsColumnOf o y × IsColumnNamed name y) ↔ IsColumn (path_of o) name y
column_there o name (item.Column c) = (λ h. (ap path_of (sym h.0), h.1), λ h. (same_object o c.table h.0, h.1))
column_there o name _ = (λ h. absurd h.0, λ h. absurd h)

pub held_there : (s : List Item) (a : Auth) (need : Need) (y : Item) → (IsHeldOf need y × IsReached s a y) ↔ IsRightFor false s a need y
held_there s a need (item.Held r) = (λ h. h, λ h. h)
held_there s a need _ = (λ h. absurd h.0, λ h. absurd h)

pub grantable_there : (s : List Item) (a : Auth) (need : Need) (y : Item) → (IsGrantableOf need y × IsReached s a y) ↔ IsRightFor true s a need y
grantable_there s a need (item.Grantable r) = (λ h. h, λ h. h)
grantable_there s a need _ = (λ h. absurd h.0, λ h. absurd h)

pub admin_there : (s : List Item) (a : Auth) (role : List ℕ) (y : Item) → (IsAdminOptionOf role y × IsReached s a y) ↔ IsAdminFor s a (role ∷ []) y
admin_there s a role (item.RoleAdmin g) = (λ h. (ap (λ r. r ∷ []) (sym h.0), h.1), λ h. (let e = h.0 in cc, h.1))
admin_there s a role _ = (λ h. absurd h.0, λ h. absurd h)

pub meets_there : (s : List Item) (schema : List ℕ) (needs : List Need) (y : Item) → MeetsAll false s schema needs y → IsSchema schema y
meets_there s schema needs (item.Schema x) h = h.0
meets_there s schema needs _ h = absurd h

-- the object of an action, and the role of an admin option, have paths

table_path : (path : List (List ℕ)) (y : Item) → IsObject action.Select path y → (o : Object) × (path_of o ≡ path)
table_path path (item.Table t) h = (t, sym h)
table_path path (item.View v) h = (v.view, sym h)
table_path path _ h = absurd h

pub object_path : (by : Action) (path : List (List ℕ)) (y : Item) → IsObject by path y → (o : Object) × (path_of o ≡ path)
object_path action.Usage path (item.Domain d) h = (d.domain, sym h)
object_path action.Usage path _ h = absurd h
object_path action.Execute path (item.Routine r) h = (r.routine, sym h)
object_path action.Execute path _ h = absurd h
object_path action.Admin path y h = absurd h
object_path action.Select path y h = table_path path y h
object_path action.Insert path y h = table_path path y h
object_path action.Update path y h = table_path path y h
object_path action.Delete path y h = table_path path y h
object_path action.References path y h = table_path path y h

pub admin_path : (s : List Item) (a : Auth) (path : List (List ℕ)) (y : Item) → IsAdminFor s a path y → (role : List ℕ) × (role ∷ [] ≡ path)
admin_path s a path (item.RoleAdmin g) h = (g.role, sym h.0)
admin_path s a path _ h = absurd h

-- what isn't ADMIN is met where it stands and someone who is reached has it
pub met_otherwise : (grantable : Bool) (s : List Item) (a : Auth) (need : Need) (by : Action) → (by ≡ action.Admin → ⊥) → MetBy grantable s a need by ↔ (Stands s need × Has s (IsRightFor grantable s a need))
met_otherwise grantable s a need action.Admin other = absurd (other refl)
met_otherwise grantable s a need _ other = (λ h. h, λ h. h)
