-- Edits that take role grants.
use Rattle.std.proofs.Common.{List, ℕ, sym, subst}
use Rattle.sql_names.specs.declared.object.Object.{Object}
use Rattle.sql_tree.specs.declared.statement.RevokeRoles.{RevokeRoles}
use Rattle.cat_items.specs.declared.edit.Edit.{Edit}
use Rattle.cat_items.specs.declared.item.Item.{Item}
use Rattle.cat_items.specs.declared.item.Item.TheVariants as item
use Rattle.cat_items.specs.Fit.{IsSystemRightGone}
use Rattle.cat_items.specs.Good.{IsGood}
use Rattle.cat_items.specs.Shape.{IsColumnOf}
use Rattle.edit_laws.specs.Sound.{IsSound}
use Rattle.edit_laws.proofs.Taking.{sound_of_taking}
use Rattle.edit_rules.specs.Chosen.{IsTaking}
use Rattle.edit_rules.proofs.SettledEdits.{chosen_within, taking_is}
use Rattle.role_edit.specs.RevokedRoles.{IsIdentifiedRoleGrant}

identified_no_column : (grantor : List ℕ) (parts : RevokeRoles) (x : Item) → IsIdentifiedRoleGrant grantor parts x → (t : Object) → ¬ (IsColumnOf t x)
identified_no_column grantor parts (item.RoleAuth g) is t h = h
identified_no_column grantor parts (item.RoleAdmin g) is t h = h
identified_no_column grantor parts _ is t h = is

identified_gone : (grantor : List ℕ) (parts : RevokeRoles) (edited : List Item) (x : Item) → IsIdentifiedRoleGrant grantor parts x → IsSystemRightGone edited x
identified_gone grantor parts edited (item.RoleAuth g) is = tt
identified_gone grantor parts edited (item.RoleAdmin g) is = tt
identified_gone grantor parts edited _ is = absurd is

pub sound_of_revoking : (c : List Item) (grantor : List ℕ) (parts : RevokeRoles) (edit : Edit) → IsGood c → IsTaking c (IsIdentifiedRoleGrant grantor parts) edit → IsSound c edit
sound_of_revoking c grantor parts edit good is =
    subst (IsSound c) (sym (taking_is c (IsIdentifiedRoleGrant grantor parts) edit is))
    (sound_of_taking c edit.target good is.target.order (chosen_within c (IsIdentifiedRoleGrant grantor parts) edit.target is.target)
    (λ x h t. identified_no_column grantor parts x ((is.target.members x).0 h).1 t)
    (λ edited e x h. identified_gone grantor parts edited x ((is.target.members x).0 h).1))
