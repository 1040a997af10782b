-- CREATE ROLE is sound.
use Rattle.std.proofs.Common.{◌≡◌, ◌⊎◌, inl, inr, ℕ, Bool, true, false, List, [], ◌∷◌, Option, Some, None, refl, sym, subst, ap, ◌∙◌}
use Rattle.std.specs.List.{Contains}
use Rattle.std.proofs.lemmas.Bool.{false≢true}
use Rattle.std.specs.declared.cmp.Ordering.TheVariants.{Less, Equal, Greater}
use Rattle.finite_chains.proofs.Members.{Contains-nil, Contains-cases}
use Rattle.sql_names.specs.Names.{name_cmp-IsAntisymmetric}
use Rattle.sql_names.specs.declared.object.Object.{Object}
use Rattle.cat_items.specs.declared.item.RoleGrant.{RoleGrant}
use Rattle.cat_items.specs.declared.item.Item.{Item}
use Rattle.cat_items.specs.declared.item.Item.TheVariants as item
use Rattle.cat_items.specs.Catalogues.{IsInOrder}
use Rattle.cat_items.specs.Fit.{HasNewKey, IsFit}
use Rattle.cat_items.specs.Good.{IsGood}
use Rattle.cat_items.specs.Order.{item_cmp}
use Rattle.cat_items.specs.Reach.{Has, GrantsRole, Leads}
use Rattle.cat_items.specs.Rights.{IsAuthorization, IsRole}
use Rattle.cat_items.specs.Shape.{NameSet, authorizations, name_of, HasAllowedName, HasDerivedFields, HasProperLists, IsWellFormed, IsColumnOf}
use Rattle.cat_items.proofs.CatalogueLemmas.{in_order}
use Rattle.sql_tree.specs.declared.rights.Grantor.{Grantor}
use Rattle.sql_tree.specs.declared.rights.Grantor.TheVariants.{CurrentUser, CurrentRole}
use Rattle.cat_items.specs.declared.edit.Who.{Who}
use Rattle.edit_rules.specs.Grantors.{IsGrantor}
use Rattle.edit_laws.specs.Sound.{IsSound}
use Rattle.edit_rules.proofs.ItemKeys.{only_granted}
use Rattle.edit_laws.specs.Additions.{AddsProperly}
use Rattle.edit_laws.specs.Kinds.{adding, IsKept}
use Rattle.edit_laws.proofs.Fits.{fit_of_adding}
use Rattle.edit_laws.proofs.GoodCatalogues.{good_order, role_of_auth_stands, grantee_of_auth_stands}
use Rattle.edit_laws.proofs.Shapes.{shape_of_edited, keeps_without_columns, view_columns_kept}
use Rattle.role_edit.specs.CreatedRoles.{creating_role, grant_by_system, IsReservedRole, IsTaken}

-- the first of the names
abbrev first_of : List (List ℕ) → List ℕ
first_of [] = []
first_of (name ∷ names) = name

abbrev called : Option (NameSet × List (List ℕ)) → List ℕ
called None = []
called (Some name) = first_of name.1

-- whether it is a name of a user or a role
abbrev of_people : NameSet → Bool
of_people authorizations = true
of_people others = false

abbrev names_people : Option (NameSet × List (List ℕ)) → Bool
names_people None = false
names_people (Some name) = of_people name.0

module _ (c : List Item) (role admin : List ℕ) (good : IsGood c) (new : ¬ (Has c (IsAuthorization role))) (other : ¬ (admin ≡ role)) (free : ¬ (IsReservedRole role)) where
  abbrev added : List Item
  added = (creating_role role admin).added

  abbrev grant : RoleGrant
  grant = grant_by_system role admin

  -- each of the three
  three : (P : Item → Type 0) → P (item.Role role) → P (item.RoleAuth grant) → P (item.RoleAdmin grant) → (x : Item) → Contains added x → P x
  three P r a o x h =
      elim (Contains-cases (item.Role role) (item.RoleAuth grant ∷ item.RoleAdmin grant ∷ []) x h) [
        | inl e ↦ subst P e r
        | inr later ↦ elim (Contains-cases (item.RoleAuth grant) (item.RoleAdmin grant ∷ []) x later) [
          | inl e ↦ subst P e a
          | inr last ↦ elim (Contains-cases (item.RoleAdmin grant) [] x last) [ inl e ↦ subst P e o | inr none ↦ absurd (Contains-nil x none) ]
        ]
      ]

  order : IsInOrder added
  order = in_order added (first, (second, (third, tt)))
    where
      third : (y : Item) → Contains [] y → item_cmp (item.RoleAdmin grant) y ≡ Less
      third y h = absurd (Contains-nil y h)

      second : (y : Item) → Contains (item.RoleAdmin grant ∷ []) y → item_cmp (item.RoleAuth grant) y ≡ Less
      second y h = elim (Contains-cases (item.RoleAdmin grant) [] y h) [ inl e ↦ subst (λ z. item_cmp (item.RoleAuth grant) z ≡ Less) e refl | inr none ↦ absurd (Contains-nil y none) ]

      first : (y : Item) → Contains (item.RoleAuth grant ∷ item.RoleAdmin grant ∷ []) y → item_cmp (item.Role role) y ≡ Less
      first y h =
          elim (Contains-cases (item.RoleAuth grant) (item.RoleAdmin grant ∷ []) y h) [
            | inl e ↦ subst (λ z. item_cmp (item.Role role) z ≡ Less) e refl
            | inr later ↦ elim (Contains-cases (item.RoleAdmin grant) [] y later) [ inl e ↦ subst (λ z. item_cmp (item.Role role) z ≡ Less) e refl | inr none ↦ absurd (Contains-nil y none) ]
          ]

  -- ---- what is added stands nowhere

  role_key : (y : Item) → item_cmp (item.Role role) y ≡ Equal → item.Role role ≡ y
  role_key (item.Role n) e = ap item.Role (name_cmp-IsAntisymmetric role n e)
  role_key (item.User n) e = absurd (let odd : Greater ≡ Equal = e in cc)
  role_key _ e = absurd (let odd : Less ≡ Equal = e in cc)

  no_role : (r : List ℕ) → r ≡ role → ¬ (Has c (IsRole r))
  no_role r same h = by h.0 h.1 h.2
    where
      by : (y : Item) → Contains c y → IsRole r y → ⊥
      by (item.Role n) here is = new (item.Role n, here, is ∙ same)
      by _ here is = is

  own : (x y : Item) → Contains added x → Contains c y → item_cmp x y ≡ Equal → x ≡ y
  own x y h k e = three (λ z. item_cmp z y ≡ Equal → z ≡ y) (λ q. role_key y q) (λ q. only_granted (item.RoleAuth grant) y tt q) (λ q. only_granted (item.RoleAdmin grant) y tt q) x h e

  fit : (edited : List Item) × IsFit c (adding added) edited
  fit = fit_of_adding c added (good_order c good) order own (three (HasNewKey c) tt tt tt) (three HasDerivedFields tt tt tt)

  kept_or_added : (y : Item) → Contains fit.0 y → Contains c y ⊎ Contains added y
  kept_or_added y h = by ((fit.1.is_edited.members y).0 h)
    where
      by : IsKept c (adding added) y ⊎ Contains added y → Contains c y ⊎ Contains added y
      by (inl k) = inl k.0
      by (inr a) = inr a

  -- ---- names

  abbrev OwnName : Item → Item → NameSet × List (List ℕ) → Type 0
  OwnName x y name = name_of x ≡ Some name → name_of y ≡ Some name → x ≡ y

  named_role : (y : Item) → name_of (item.Role role) ≡ name_of y → Contains c y → ⊥
  named_role (item.User n) e here = new (item.User n, here, same)
    where
      same : n ≡ role
      same = sym (ap called e)
  named_role (item.Role n) e here = new (item.Role n, here, same)
    where
      same : n ≡ role
      same = sym (ap called e)
  named_role _ e here = false≢true (sym (ap names_people e))

  role_name : (y : Item) (name : NameSet × List (List ℕ)) → Contains fit.0 y → OwnName (item.Role role) y name
  role_name y name h nx ny =
      elim (kept_or_added y h) [
        | inl old ↦ absurd (named_role y (nx ∙ sym ny) old)
        | inr a ↦ three (λ z. name_of z ≡ Some name → item.Role role ≡ z) (λ e. refl) (λ e. cc) (λ e. cc) y a ny
      ]

  names : (x y : Item) (name : NameSet × List (List ℕ)) → Contains added x → Contains fit.0 y → name_of x ≡ Some name → name_of y ≡ Some name → x ≡ y
  names x y name h k = three (λ z. OwnName z y name) (role_name y name k) (λ nx ny. cc) (λ nx ny. cc) x h

  -- ---- cycles

  -- no role authorization is for the new role
  dead_end : (next : List ℕ) (y : Item) → Contains fit.0 y → GrantsRole next role y → ⊥
  dead_end next (item.RoleAuth g) here leads =
      elim (kept_or_added (item.RoleAuth g) here) [
        | inl old ↦ new (subst (λ n. Has c (IsAuthorization n)) leads.1 (grantee_of_auth_stands c good g old))
        | inr a ↦ three (λ z. item.RoleAuth g ≡ z → ⊥) (λ e. cc) (λ e. is_admin e) (λ e. cc) (item.RoleAuth g) a refl
      ]
    where
      is_admin : item.RoleAuth g ≡ item.RoleAuth grant → ⊥
      is_admin e = let same : g.grantee ≡ admin = ap (λ (o : RoleGrant). o.grantee) (let inside : g ≡ grant = cc in inside) in other (sym same ∙ leads.1)
  dead_end next _ here leads = leads

  only_here : (others : List (List ℕ)) (to : List ℕ) → Leads fit.0 role others to → role ≡ to
  only_here [] to is = is
  only_here (next ∷ others) to leads = absurd (dead_end next leads.0.0 leads.0.1 leads.0.2)

  -- a step leads on in the catalogue, or to the new role
  step : (next from : List ℕ) (y : Item) → Contains fit.0 y → GrantsRole next from y → Has c (GrantsRole next from) ⊎ (next ≡ role)
  step next from (item.RoleAuth g) here leads =
      elim (kept_or_added (item.RoleAuth g) here) [
        | inl old ↦ inl (item.RoleAuth g, old, leads)
        | inr a ↦ inr (three (λ z. item.RoleAuth g ≡ z → next ≡ role) (λ e. absurd (let odd : item.RoleAuth g ≡ item.Role role = e in cc)) (λ e. to_role e) (λ e. absurd (let odd : item.RoleAuth g ≡ item.RoleAdmin grant = e in cc)) (item.RoleAuth g) a refl)
      ]
    where
      to_role : item.RoleAuth g ≡ item.RoleAuth grant → next ≡ role
      to_role e = let inside : g ≡ grant = cc in sym leads.0 ∙ ap (λ (o : RoleGrant). o.role) inside
  step next from _ here leads = absurd leads

  -- what leads to another name leads there in the catalogue
  leads_in_catalogue : (from : List ℕ) (others : List (List ℕ)) (to : List ℕ) → ¬ (role ≡ to) → Leads fit.0 from others to → Leads c from others to
  leads_in_catalogue from [] to apart leads = leads
  leads_in_catalogue from (next ∷ others) to apart leads =
      elim (step next from leads.0.0 leads.0.1 leads.0.2) [
        | inl old ↦ (old, leads_in_catalogue next others to apart leads.1)
        | inr same ↦ absurd (apart (only_here others to (subst (λ n. Leads fit.0 n others to) same leads.1)))
      ]

  no_cycle : (name next : List ℕ) (others : List (List ℕ)) → Leads fit.0 name (next ∷ others) name → ⊥
  no_cycle name next others leads =
      good.shape.no_cycle name next others (leads_in_catalogue name (next ∷ others) name (λ e. dead_end next leads.0.0 leads.0.1 (subst (λ n. GrantsRole next n leads.0.0) (sym e) leads.0.2)) leads)

  -- ---- the edit

  proper : AddsProperly (adding added) fit.0
  proper = record {
    names = names;
    allowed = three HasAllowedName (λ e. free (inl e), λ e. free (inr (inr e))) tt tt;
    derived = three HasDerivedFields tt tt tt;
    lists = three HasProperLists tt tt tt;
    keys = λ f k a cf ck e. elim a [ inl x ↦ absurd (three (λ z. item.Foreign f ≡ z → ⊥) (λ q. cc) (λ q. cc) (λ q. cc) (item.Foreign f) x refl) | inr y ↦ absurd (three (λ z. item.Key k ≡ z → ⊥) (λ q. cc) (λ q. cc) (λ q. cc) (item.Key k) y refl) ];
    primary = λ a b x cb e pa pb. absurd (three (λ z. item.Key a ≡ z → ⊥) (λ q. cc) (λ q. cc) (λ q. cc) (item.Key a) x refl);
    domains = λ x d a cx cd e. elim a [ inl y ↦ absurd (three (λ z. item.Column x ≡ z → ⊥) (λ q. cc) (λ q. cc) (λ q. cc) (item.Column x) y refl) | inr y ↦ absurd (three (λ z. item.Domain d ≡ z → ⊥) (λ q. cc) (λ q. cc) (λ q. cc) (item.Domain d) y refl) ];
    view_columns = view_columns_kept c (adding added) fit.0 good.shape fit.1.is_edited (keeps_without_columns c (adding added) none) (λ v a. absurd (three (λ z. item.View v ≡ z → ⊥) (λ q. cc) (λ q. cc) (λ q. cc) (item.View v) a refl));
    view_domains = λ v x a cv cx e. elim a [ inl y ↦ absurd (three (λ z. item.View v ≡ z → ⊥) (λ q. cc) (λ q. cc) (λ q. cc) (item.View v) y refl) | inr y ↦ absurd (three (λ z. item.Column x ≡ z → ⊥) (λ q. cc) (λ q. cc) (λ q. cc) (item.Column x) y refl) ];
    no_cycle = no_cycle;
    trees = three IsWellFormed tt tt tt;
  }
    where
      none : (x : Item) → Contains [] x ⊎ Contains [] x → (t : Object) → ¬ (IsColumnOf t x)
      none x (inl h) t = absurd (Contains-nil x h)
      none x (inr h) t = absurd (Contains-nil x h)

  pub sound_of_creating : IsSound c (creating_role role admin)
  sound_of_creating = record { edited = fit.0; fit = fit.1; shape = shape_of_edited c (adding added) fit.0 good.shape fit.1.is_edited proper }

-- no role leads to a name that isn't a role
no_step : (c : List Item) (good : IsGood c) (role : List ℕ) → ¬ (Has c (IsAuthorization role)) → (from : List ℕ) (roles : List (List ℕ)) → Leads c from roles role → from ≡ role
no_step c good role new from [] is = is
no_step c good role new from (next ∷ roles) leads = absurd (by leads.0.0 leads.0.1 leads.0.2 (no_step c good role new next roles leads.1))
  where
    stands : (g : RoleGrant) → Contains c (item.RoleAuth g) → g.role ≡ role → ⊥
    stands g here same = let h = role_of_auth_stands c good g here in named h.0 h.1 h.2
      where
        named : (y : Item) → Contains c y → IsRole g.role y → ⊥
        named (item.Role n) there is = new (item.Role n, there, is ∙ same)
        named _ there is = is

    by : (y : Item) → Contains c y → GrantsRole next from y → next ≡ role → ⊥
    by (item.RoleAuth g) here is same = stands g here (is.0 ∙ same)
    by _ here is same = is

-- the administrator isn't the new role
pub admin_is_another : (c : List Item) (who : Who) (by : Option Grantor) (role admin : List ℕ) → IsGood c → ¬ (IsTaken c who role) → IsGrantor c who by admin → ¬ (admin ≡ role)
admin_is_another c who (Some CurrentRole) role admin good new is same =
    let leads = is.1 in
    new (inr (sym (no_step c good role (λ h. new (inl h)) who.user leads.0 (subst (λ n. Leads c who.user leads.0 n) same leads.1))))
admin_is_another c who (Some CurrentUser) role admin good new is same = new (inr (sym same ∙ is))
admin_is_another c who None role admin good new is same = new (inr (sym same ∙ is))
