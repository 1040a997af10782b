-- The privileges that a statement names, and to whom (privileges, SQL:2003 part 2, 12.3).
use Rattle.std.specs.Prelude.{◌≡◌, ◌⊎◌, Bool, false, not, List, [], ◌∷◌, Option, Some, None, map}
use Rattle.std.specs.List.{Contains, flat_map}
use Rattle.sql_names.specs.NameBytes.{NameBytes}
use Rattle.sql_names.specs.declared.object.Object.{Object}
use Rattle.sql_tree.specs.declared.rights.Action.{Action}
use Rattle.sql_tree.specs.declared.rights.Action.TheVariants as actions
use Rattle.sql_tree.specs.declared.rights.Grantee.{Grantee}
use Rattle.sql_tree.specs.declared.rights.Grantee.TheVariants as grantee
use Rattle.sql_tree.specs.declared.rights.Privilege.{Privilege}
use Rattle.sql_tree.specs.declared.rights.Privileges.{Privileges}
use Rattle.sql_tree.specs.declared.rights.Privileges.TheVariants.{All, Listed}
use Rattle.sql_tree.specs.declared.rights.TargetKind.{TargetKind}
use Rattle.sql_tree.specs.declared.rights.TargetKind.TheVariants as kinds
use Rattle.cat_items.specs.declared.need.Auth.{Auth}
use Rattle.cat_items.specs.declared.need.Auth.TheVariants.{Public, Named}
use Rattle.cat_items.specs.declared.need.Need.{Need}
use Rattle.cat_items.specs.Needs.{object_need, column_need}
use Rattle.edit_rules.specs.Privileges.{IsLeastNeed}

-- the actions of an object's kind, which ALL PRIVILEGES stands for
abbrev pub actions_on : TargetKind → List Action
actions_on kinds.Table = actions.Select ∷ actions.Insert ∷ actions.Update ∷ actions.Delete ∷ actions.References ∷ []
actions_on kinds.Domain = actions.Usage ∷ []
actions_on kinds.Function = actions.Execute ∷ []
actions_on kinds.Procedure = actions.Execute ∷ []
actions_on kinds.Routine = actions.Execute ∷ []

-- the privilege on the whole object, or with a column list on each of the columns
abbrev pub privilege_on : Object → Action → List NameBytes → List Need
privilege_on object action [] = object_need action object ∷ []
privilege_on object action (name ∷ names) = map (column_need action object) (name ∷ names)

-- the privileges that are named
abbrev pub named_privileges : TargetKind → Object → Privileges → List Need
named_privileges kind object All = map (λ (a : Action). object_need a object) (actions_on kind)
named_privileges kind object (Listed all) = flat_map (λ (p : Privilege). privilege_on object p.action p.columns) all

abbrev pub grantee_auth : Grantee → Auth
grantee_auth grantee.Public = Public
grantee_auth (grantee.Named name) = Named name

-- whom the statement names
abbrev pub named_grantees : List Grantee → List Auth
named_grantees grantees = map grantee_auth grantees

-- the least of these privileges, or none where there are none
abbrev pub IsLeastOf : List Need → Option Need → Type 0
IsLeastOf needs None = (need : Need) → ¬ (Contains needs need)
IsLeastOf needs (Some need) = IsLeastNeed (Contains needs) need

-- the least that is named, where nothing is granted
abbrev pub IsRefused : List Need → List Need → Option Need → Type 0
IsRefused named granted None = ((need : Need) × Contains granted need) ⊎ ((need : Need) → ¬ (Contains named need))
IsRefused named granted (Some need) = (granted ≡ []) × IsLeastNeed (Contains named) need

-- less is granted than is listed; ALL PRIVILEGES asks for no more than can be granted
abbrev pub grants_less_than_listed : Bool → Privileges → Bool
grants_less_than_listed all All = false
grants_less_than_listed all (Listed listed) = not all
