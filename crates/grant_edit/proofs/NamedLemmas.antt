-- What is named.
use Rattle.std.proofs.Common.{◌≡◌, ℕ, List, [], ◌∷◌, map, sym, ap, refl}
use Rattle.std.specs.List.{Contains}
use Rattle.sql_names.specs.declared.object.Object.{Object}
use Rattle.sql_tree.specs.declared.rights.Action.{Action}
use Rattle.sql_tree.specs.declared.rights.Privilege.{Privilege}
use Rattle.sql_tree.specs.declared.rights.Privileges.{Privileges}
use Rattle.sql_tree.specs.declared.rights.Privileges.TheVariants.{All, Listed}
use Rattle.sql_tree.specs.declared.rights.TargetKind.{TargetKind}
use Rattle.cat_items.specs.declared.need.Need.{Need}
use Rattle.cat_items.specs.Needs.{object_need, column_need}
use Rattle.cat_items.specs.Rights.{path_of}
use Rattle.grant_edit.specs.Named.{actions_on, privilege_on, named_privileges}
use Rattle.grant_edit.proofs.Lists.{contains_map, contains_flat, contains_one}

-- with a column list there is one privilege for each column
pub on_each_column : (object : Object) (action : Action) (names : List (List ℕ)) → (names ≡ [] → ⊥) → map (column_need action object) names ≡ privilege_on object action names
on_each_column object action [] other = absurd (other refl)
on_each_column object action (name ∷ names) other = refl

privilege_is_on : (object : Object) (action : Action) (names : List (List ℕ)) (need : Need) → Contains (privilege_on object action names) need → need.on ≡ path_of object
privilege_is_on object action [] need h = ap (λ (n : Need). n.on) (sym (contains_one (object_need action object) need h))
privilege_is_on object action (name ∷ names) need h =
    let made = (contains_map (column_need action object) (name ∷ names) need).0 h in
    ap (λ (n : Need). n.on) (sym made.2)

-- all that is named is on the object
pub named_is_on : (kind : TargetKind) (object : Object) (privileges : Privileges) (need : Need) → Contains (named_privileges kind object privileges) need → need.on ≡ path_of object
named_is_on kind object All need h =
    let made = (contains_map (λ (a : Action). object_need a object) (actions_on kind) need).0 h in
    ap (λ (n : Need). n.on) (sym made.2)
named_is_on kind object (Listed all) need h =
    let of = contains_flat (λ (p : Privilege). privilege_on object p.action p.columns) all need h in
    privilege_is_on object of.0.action of.0.columns need of.2

-- needs of the same parts are one
pub same_need : (a b : Need) → (a.action ≡ b.action) → (a.on ≡ b.on) → (a.column ≡ b.column) → a ≡ b
same_need a b e f g = λ i. record { action = e i; on = f i; column = g i }
