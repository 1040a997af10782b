-- Authorizations and role descriptors.
use Rattle.std.proofs.Common.{◌≡◌, inl, inr, refl, sym, ap, subst, ◌∙◌, ℕ, Bool, false, true, List, [], ◌∷◌, Some, None}
use Rattle.std.specs.Prelude.{codes, slice_get, IsTrue, ◌↔◌}
use Rattle.std.specs.List.{Contains}
use Rattle.finite_chains.proofs.Members.{Contains-nil, Contains-head}
use Rattle.cat_items.specs.declared.need.Auth.{Auth}
use Rattle.cat_items.specs.declared.need.Auth.TheVariants as auths
use Rattle.cat_items.specs.declared.item.RoleGrant.{RoleGrant}
use Rattle.cat_items.specs.declared.item.Item.{Item}
use Rattle.cat_items.specs.declared.item.Item.TheVariants as item
use Rattle.cat_items.specs.declared.row.Cell.TheVariants.{Words}
use Rattle.cat_items.specs.Good.{IsGood}
use Rattle.cat_items.specs.Rights.{IsAuthorization, IsRole}
use Rattle.cat_items.specs.Shape.{authorizations, name_of, IsAuthorizationName}
use Rattle.cat_items.specs.Supported.{MayGrantRole}
use Rattle.edit_laws.proofs.GoodCatalogues.{good_supports, role_of_auth_stands, grantee_of_auth_stands}
use Rattle.schema_tables.specs.declared.names.SchemaTable.{SchemaTable}
use Rattle.schema_tables.specs.declared.names.SchemaTable.TheVariants as t
use Rattle.schema_tables.specs.Cells.{Row, auth_cell}
use Rattle.schema_tables.specs.Shown.{Shown, of_user, of_role, of_role_auth, of_role_admin}
use Rattle.schema_tables.specs.Sight.{IsShown}
use Rattle.schema_tables.specs.TableRows.{Beside, IsBeside, rows, HasRow, descriptor_row}
use Rattle.definition_schema.specs.Keys.{values, HasSome, IsKey, Refers, Any, Is}
use Rattle.definition_schema.specs.Constraints.{AuthorizationsHold, RolesHold, Every, IsGrantor}
use Rattle.definition_schema.specs.Definition.{AreDefinitionRows}
use Rattle.definition_schema.proofs.RowsOf.{only}
use Rattle.definition_schema.proofs.Rights.{authorization}
use Rattle.definition_schema.proofs.Roles.{no_role_cycle}
use Rattle.definition_schema.proofs.Named.{differ}

abbrev authorization_kind : Item → List ℕ
authorization_kind (item.User n) = codes "USER"
authorization_kind x = codes "ROLE"

abbrev authorization_row : List ℕ → Item → Row
authorization_row name x = Words name ∷ Words (authorization_kind x) ∷ []

abbrev IsAuthorizationRow : List Item → Row → Type 0
IsAuthorizationRow c row = (name : List ℕ) × (x : Item) × Contains c x × IsAuthorization name x × (row ≡ authorization_row name x)

authorization_rows_are : (c : List Item) (row : Row) → HasRow (IsShown c None) t.Authorizations row → IsAuthorizationRow c row
authorization_rows_are c row h = by h.0 h.1 h.2 h.4
  where
    by : (s : Shown) (m : Beside) → IsShown c None s → Contains (rows t.Authorizations m s) row → IsAuthorizationRow c row
    by (of_user n) m p k = (n, item.User n, p.1, refl, only _ _ k)
    by (of_role n) m p k = (n, item.Role n, p.1, refl, only _ _ k)
    by _ m p k = absurd (Contains-nil _ k)

-- a role authorization, and whether an admin option of the same fields stands
abbrev IsDescriptor : List Item → Row → Type 0
IsDescriptor c row = (g : RoleGrant) × (flag : Bool) × Contains c (item.RoleAuth g) × (IsTrue flag ↔ IsShown c None (of_role_admin g)) × (row ≡ descriptor_row g flag)

descriptors_are : (c : List Item) (row : Row) → HasRow (IsShown c None) t.RoleAuthorizationDescriptors row → IsDescriptor c row
descriptors_are c row h = by h.0 h.1 h.2 h.3 h.4
  where
    by : (s : Shown) (m : Beside) → IsShown c None s → IsBeside (IsShown c None) s m → Contains (rows t.RoleAuthorizationDescriptors m s) row → IsDescriptor c row
    by (of_role_auth g) m p b k = (g, m.same, p.0, b.0, only _ _ k)
    by _ m p b k = absurd (Contains-nil _ k)

pub same_flag : (P : Type 0) (a b : Bool) → (IsTrue a ↔ P) → (IsTrue b ↔ P) → a ≡ b
same_flag P true true p q = refl
same_flag P false false p q = refl
same_flag P true false p q = sym (q.1 (p.0 refl))
same_flag P false true p q = p.1 (q.0 refl)

-- the name of a grantor, if it has one, is one of an authorization
abbrev pub HasProperName : Auth → Type 0
HasProperName (auths.Named name) = IsAuthorizationName name
HasProperName other = Unit {0}

pub one_auth : (a b : Auth) → HasProperName a → HasProperName b → auth_cell a ≡ auth_cell b → a ≡ b
one_auth auths.System auths.System p q e = refl
one_auth auths.System auths.Public p q e = absurd (differ (codes "_SYSTEM") (codes "PUBLIC") refl cc)
one_auth auths.System (auths.Named n) p q e = absurd (q.1 (let f : n ≡ codes "_SYSTEM" = cc in f))
one_auth auths.Public auths.System p q e = absurd (differ (codes "PUBLIC") (codes "_SYSTEM") refl cc)
one_auth auths.Public auths.Public p q e = refl
one_auth auths.Public (auths.Named n) p q e = absurd (q.0 (let f : n ≡ codes "PUBLIC" = cc in f))
one_auth (auths.Named n) auths.System p q e = absurd (p.1 (let f : n ≡ codes "_SYSTEM" = cc in f))
one_auth (auths.Named n) auths.Public p q e = absurd (p.0 (let f : n ≡ codes "PUBLIC" = cc in f))
one_auth (auths.Named n) (auths.Named m) p q e = ap auths.Named (let f : n ≡ m = cc in f)

module _ (c : List Item) (good : IsGood c) (d : SchemaTable → List Row) (are : AreDefinitionRows c d) where
  of_authorizations : (a : Row) → Contains (d t.Authorizations) a → IsAuthorizationRow c a
  of_authorizations a is = authorization_rows_are c a (((are t.Authorizations tt).members a).0 is)

  of_descriptors : (a : Row) → Contains (d t.RoleAuthorizationDescriptors) a → IsDescriptor c a
  of_descriptors a is = descriptors_are c a (((are t.RoleAuthorizationDescriptors tt).members a).0 is)

  named : (name : List ℕ) (x : Item) → IsAuthorization name x → name_of x ≡ Some (authorizations, name ∷ [])
  named name (item.User n) e = ap (λ z. Some (authorizations, z ∷ [])) e
  named name (item.Role n) e = ap (λ z. Some (authorizations, z ∷ [])) e
  named name _ e = absurd e

  pub proper : (name : List ℕ) (x : Item) → Contains c x → IsAuthorization name x → IsAuthorizationName name
  proper name (item.User n) here e = subst IsAuthorizationName e (good.shape.allowed (item.User n) here)
  proper name (item.Role n) here e = subst IsAuthorizationName e (good.shape.allowed (item.Role n) here)
  proper name _ here e = absurd e

  authorization_key : IsKey (d t.Authorizations) (0 ∷ [])
  authorization_key a b here there e =
      let p = of_authorizations a here in
      let q = of_authorizations b there in
      let same : values (0 ∷ []) (authorization_row p.0 p.1) ≡ values (0 ∷ []) (authorization_row q.0 q.1) = sym (ap (values (0 ∷ [])) p.4) ∙ e ∙ ap (values (0 ∷ [])) q.4 in
      let name : p.0 ≡ q.0 = cc in
      let x : p.1 ≡ q.1 = good.shape.names p.1 q.1 (authorizations, q.0 ∷ []) p.2 q.2 (named p.0 p.1 p.3 ∙ ap (λ z. Some (authorizations, z ∷ [])) name) (named q.0 q.1 q.3) in
      p.4 ∙ ap (λ z. authorization_row z p.1) name ∙ ap (authorization_row q.0) x ∙ sym q.4

  authorization_names : Every (d t.Authorizations) (λ row. (¬ (Is 0 (codes "PUBLIC") row)) × (¬ (Is 0 (codes "_SYSTEM") row)))
  authorization_names a here =
      let p = of_authorizations a here in
      let fit = proper p.0 p.1 p.2 p.3 in
      (λ is. fit.0 (let f : p.0 ≡ codes "PUBLIC" = cc (sym (ap (λ z. slice_get z 0) p.4) ∙ is) in f), λ is. fit.1 (let f : p.0 ≡ codes "_SYSTEM" = cc (sym (ap (λ z. slice_get z 0) p.4) ∙ is) in f))

  pub authorizations_hold : AuthorizationsHold d
  authorizations_hold = record { names_differ = authorization_key; no_name_is_kept = authorization_names }

  may_grant : (g : RoleGrant) → Contains c (item.RoleAuth g) → MayGrantRole c g.role g.grantor
  may_grant g is = (good_supports c good (item.RoleAuth g) is).2

  grantor_name : (role : List ℕ) (by : Auth) → MayGrantRole c role by → HasProperName by
  grantor_name role auths.System may = tt
  grantor_name role auths.Public may = tt
  grantor_name role (auths.Named name) may = proper name may.0.0 may.0.1 may.0.2

  role_key : IsKey (d t.RoleAuthorizationDescriptors) (0 ∷ 2 ∷ 1 ∷ [])
  role_key a b here there e =
      let p = of_descriptors a here in
      let q = of_descriptors b there in
      let same : values (0 ∷ 2 ∷ 1 ∷ []) (descriptor_row p.0 p.1) ≡ values (0 ∷ 2 ∷ 1 ∷ []) (descriptor_row q.0 q.1) = sym (ap (values (0 ∷ 2 ∷ 1 ∷ [])) p.4) ∙ e ∙ ap (values (0 ∷ 2 ∷ 1 ∷ [])) q.4 in
      let role : p.0.role ≡ q.0.role = cc in
      let cell : auth_cell p.0.grantor ≡ auth_cell q.0.grantor = cc in
      let grantee : p.0.grantee ≡ q.0.grantee = cc in
      let grantor : p.0.grantor ≡ q.0.grantor = one_auth p.0.grantor q.0.grantor (grantor_name p.0.role p.0.grantor (may_grant p.0 p.2)) (grantor_name q.0.role q.0.grantor (may_grant q.0 q.2)) cell in
      let g : p.0 ≡ q.0 = (λ i. record { role = role i; grantor = grantor i; grantee = grantee i }) in
      let flag : p.1 ≡ q.1 = same_flag (IsShown c None (of_role_admin q.0)) p.1 q.1 (subst (λ z. IsTrue p.1 ↔ IsShown c None (of_role_admin z)) g p.3) q.3 in
      p.4 ∙ ap (λ z. descriptor_row z p.1) g ∙ ap (descriptor_row q.0) flag ∙ sym q.4

  role_row_of : (name : List ℕ) (y : Item) → Contains c y → IsRole name y → HasSome (d t.Authorizations) (λ b. Is 1 (codes "ROLE") b × ((Some (Words name) ∷ []) ≡ values (0 ∷ []) b))
  role_row_of name (item.Role n) here e =
      let row : Row = Words n ∷ Words (codes "ROLE") ∷ [] in
      (row, ((are t.Authorizations tt).members row).1 (of_role n, record { same = false; option = false; role = false }, (tt, here), (refl, refl, refl), Contains-head row []), (refl, λ i. Some (Words (sym e i)) ∷ []))
  role_row_of name _ here e = absurd e

  role : Refers (d t.RoleAuthorizationDescriptors) Any (0 ∷ []) (d t.Authorizations) (Is 1 (codes "ROLE")) (0 ∷ [])
  role a here any =
      let p = of_descriptors a here in
      let h = role_of_auth_stands c good p.0 p.2 in
      let r = role_row_of p.0.role h.0 h.1 h.2 in
      (r.0, r.1, (r.2.0, ap (values (0 ∷ [])) p.4 ∙ r.2.1))

  grantee : Refers (d t.RoleAuthorizationDescriptors) Any (1 ∷ []) (d t.Authorizations) Any (0 ∷ [])
  grantee a here any =
      let p = of_descriptors a here in
      let r = authorization c good d are p.0.grantee (grantee_of_auth_stands c good p.0 p.2) in
      (r.0, r.1, (tt, ap (values (1 ∷ [])) p.4 ∙ λ i. r.2 i ∷ []))

  grantor_of : (g : RoleGrant) (flag : Bool) (by : Auth) → MayGrantRole c g.role by → g.grantor ≡ by → IsGrantor (d t.Authorizations) 2 (descriptor_row g flag)
  grantor_of g flag auths.System may e = inl (ap (λ a. Some (auth_cell a)) e)
  grantor_of g flag auths.Public may e = absurd may
  grantor_of g flag (auths.Named name) may e = inr (subst (λ x. HasSome (d t.Authorizations) (λ a. Some (auth_cell x) ≡ slice_get a 0)) (sym e) (authorization c good d are name may.0))

  pub roles_hold : RolesHold d
  roles_hold = record {
    descriptors_differ = role_key;
    roles_stand = role;
    grantees_stand = grantee;
    grantors_stand = λ a here. let p = of_descriptors a here in subst (IsGrantor (d t.Authorizations) 2) (sym p.4) (grantor_of p.0 p.1 p.0.grantor (may_grant p.0 p.2) refl);
    no_role_leads_back = no_role_cycle c d are good.shape;
  }
