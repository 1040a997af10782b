-- Edits that grant roles.
use Rattle.std.proofs.Common.{◌≡◌, ◌⊎◌, inl, inr, ℕ, Bool, List, [], ◌∷◌, Some, sym, subst}
use Rattle.std.specs.List.{Contains}
use Rattle.sql_names.specs.declared.object.Object.{Object}
use Rattle.cat_items.specs.declared.edit.Edit.{Edit}
use Rattle.cat_items.specs.declared.item.Item.{Item}
use Rattle.cat_items.specs.declared.item.Item.TheVariants as item
use Rattle.cat_items.specs.Fit.{HasNewKey, IsFit}
use Rattle.cat_items.specs.Good.{IsGood}
use Rattle.cat_items.specs.Reach.{GrantsRole, Leads}
use Rattle.cat_items.specs.Shape.{NameSet, name_of, HasAllowedName, HasDerivedFields, HasProperLists, IsWellFormed, IsColumnOf}
use Rattle.role_graph.specs.Cycles.{HasCycle, IsStep, StepsLead}
use Rattle.edit_laws.specs.Sound.{IsSound}
use Rattle.edit_rules.specs.Chosen.{IsAdding, IsRightOrRoleGrant}
use Rattle.edit_rules.proofs.ItemKeys.{only_granted}
use Rattle.edit_laws.specs.Additions.{AddsProperly}
use Rattle.edit_laws.specs.Kinds.{adding, IsKept}
use Rattle.edit_laws.proofs.Fits.{fit_of_adding}
use Rattle.edit_laws.proofs.GoodCatalogues.{good_order}
use Rattle.edit_laws.proofs.Shapes.{shape_of_edited, keeps_without_columns, view_columns_kept}
use Rattle.finite_chains.proofs.Members.{Contains-nil}
use Rattle.role_edit.specs.GrantedRoles.{IsGrantedRole}

-- a role authorization or an admin option
abbrev pub IsRoleGrant : Item → Type 0
IsRoleGrant (item.RoleAuth g) = Unit {0}
IsRoleGrant (item.RoleAdmin g) = Unit {0}
IsRoleGrant x = ⊥

pub granted_role : (grantor : List ℕ) (roles grantees : List (List ℕ)) (option : Bool) (x : Item) → IsGrantedRole grantor roles grantees option x → IsRoleGrant x
granted_role grantor roles grantees option (item.RoleAuth g) is = tt
granted_role grantor roles grantees option (item.RoleAdmin g) is = tt
granted_role grantor roles grantees option _ is = is

pub grant_is_granted : (x : Item) → IsRoleGrant x → IsRightOrRoleGrant x
grant_is_granted (item.RoleAuth g) is = tt
grant_is_granted (item.RoleAdmin g) is = tt
grant_is_granted _ is = absurd is

pub grant_has_no_name : (x : Item) (name : NameSet × List (List ℕ)) → IsRoleGrant x → name_of x ≡ Some name → ⊥
grant_has_no_name (item.RoleAuth g) name is e = cc
grant_has_no_name (item.RoleAdmin g) name is e = cc
grant_has_no_name _ name is e = is

pub grant_allowed : (x : Item) → IsRoleGrant x → HasAllowedName x
grant_allowed (item.RoleAuth g) is = tt
grant_allowed (item.RoleAdmin g) is = tt
grant_allowed _ is = absurd is

pub grant_derived : (x : Item) → IsRoleGrant x → HasDerivedFields x
grant_derived (item.RoleAuth g) is = tt
grant_derived (item.RoleAdmin g) is = tt
grant_derived _ is = absurd is

pub grant_lists : (x : Item) → IsRoleGrant x → HasProperLists x
grant_lists (item.RoleAuth g) is = tt
grant_lists (item.RoleAdmin g) is = tt
grant_lists _ is = absurd is

pub grant_trees : (x : Item) → IsRoleGrant x → IsWellFormed x
grant_trees (item.RoleAuth g) is = tt
grant_trees (item.RoleAdmin g) is = tt
grant_trees _ is = absurd is

pub grant_new : (c : List Item) (x : Item) → IsRoleGrant x → HasNewKey c x
grant_new c (item.RoleAuth g) is = tt
grant_new c (item.RoleAdmin g) is = tt
grant_new c _ is = absurd is

module _ (c : List Item) (grantor : List ℕ) (roles grantees : List (List ℕ)) (option : Bool) (edit : Edit) (good : IsGood c) (acyclic : ¬ (HasCycle (IsStep c roles grantees)))
    (is : IsAdding (IsGrantedRole grantor roles grantees option) edit) where
  is_grant : (x : Item) → Contains edit.added x → IsRoleGrant x
  is_grant x h = granted_role grantor roles grantees option x ((is.added.members x).0 h)

  fit : (edited : List Item) × IsFit c (adding edit.added) edited
  fit = fit_of_adding c edit.added (good_order c good) is.added.order
      (λ x y h k e. only_granted x y (grant_is_granted x (is_grant x h)) e)
      (λ x h. grant_new c x (is_grant x h))
      (λ x h. grant_derived x (is_grant x h))

  -- each role authorization leads as one of the catalogue or of the statement
  step : (role from : List ℕ) (y : Item) → Contains fit.0 y → GrantsRole role from y → IsStep c roles grantees from role
  step role from (item.RoleAuth g) here leads = by ((fit.1.is_edited.members (item.RoleAuth g)).0 here)
    where
      by : IsKept c (adding edit.added) (item.RoleAuth g) ⊎ Contains edit.added (item.RoleAuth g) → IsStep c roles grantees from role
      by (inl old) = inl (item.RoleAuth g, old.0, leads)
      by (inr new) = let by_statement = (is.added.members (item.RoleAuth g)).0 new in inr (subst (Contains roles) leads.0 by_statement.role, subst (Contains grantees) leads.1 by_statement.grantee)
  step role from _ here leads = absurd leads

  steps : (from : List ℕ) (others : List (List ℕ)) (to : List ℕ) → Leads fit.0 from others to → StepsLead (IsStep c roles grantees) from others to
  steps from [] to leads = leads
  steps from (role ∷ others) to leads = (step role from leads.0.0 leads.0.1 leads.0.2, steps role others to leads.1)

  proper : AddsProperly (adding edit.added) fit.0
  proper = record {
    names = λ x y name h k nx ny. absurd (grant_has_no_name x name (is_grant x h) nx);
    allowed = λ x h. grant_allowed x (is_grant x h);
    derived = λ x h. grant_derived x (is_grant x h);
    lists = λ x h. grant_lists x (is_grant x h);
    keys = λ f k added cf ck e. elim added [ inl a ↦ absurd (is_grant (item.Foreign f) a) | inr b ↦ absurd (is_grant (item.Key k) b) ];
    primary = λ a b added cb e pa pb. absurd (is_grant (item.Key a) added);
    domains = λ x d added cx cd e. elim added [ inl a ↦ absurd (is_grant (item.Column x) a) | inr b ↦ absurd (is_grant (item.Domain d) b) ];
    view_columns = view_columns_kept c (adding edit.added) fit.0 good.shape fit.1.is_edited (keeps_without_columns c (adding edit.added) none) (λ v added. absurd (is_grant (item.View v) added));
    view_domains = λ v x added cv cx e. elim added [ inl a ↦ absurd (is_grant (item.View v) a) | inr b ↦ absurd (is_grant (item.Column x) b) ];
    no_cycle = λ name role others leads. acyclic (name, role, others, steps name (role ∷ others) name leads);
    trees = λ x h. grant_trees x (is_grant x h);
  }
    where
      none : (x : Item) → Contains [] x ⊎ Contains [] x → (t : Object) → ¬ (IsColumnOf t x)
      none x (inl h) t = absurd (Contains-nil x h)
      none x (inr h) t = absurd (Contains-nil x h)

  adding_is : edit ≡ adding edit.added
  adding_is = λ i. record { target = is.target i; changed = is.changed i; added = edit.added }

  pub sound_of_granting : IsSound c edit
  sound_of_granting = subst (IsSound c) (sym adding_is) (record { edited = fit.0; fit = fit.1; shape = shape_of_edited c (adding edit.added) fit.0 good.shape fit.1.is_edited proper })
