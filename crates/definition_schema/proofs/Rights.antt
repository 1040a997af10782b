-- Privileges: whom they are from, and for.
use Rattle.std.proofs.Common.{◌≡◌, inl, inr, refl, sym, ap, subst, ℕ, Bool, false, List, [], ◌∷◌, Some}
use Rattle.std.specs.Prelude.{codes, slice_get}
use Rattle.std.specs.List.{Contains}
use Rattle.finite_chains.proofs.Members.{Contains-head}
use Rattle.cat_items.specs.declared.need.Auth.{Auth}
use Rattle.cat_items.specs.declared.need.Auth.TheVariants as auths
use Rattle.cat_items.specs.declared.item.Right.{Right}
use Rattle.cat_items.specs.declared.item.Item.{Item}
use Rattle.cat_items.specs.declared.item.Item.TheVariants as item
use Rattle.cat_items.specs.declared.row.Cell.TheVariants.{Words}
use Rattle.cat_items.specs.Good.{IsGood}
use Rattle.cat_items.specs.Reach.{Has}
use Rattle.cat_items.specs.Rights.{IsAuthorization}
use Rattle.cat_items.specs.Supported.{MayGrant}
use Rattle.cat_items.specs.Supported as supported
use Rattle.edit_laws.proofs.GoodCatalogues.{held_grantee_stands, held_is_granted}
use Rattle.schema_tables.specs.declared.names.SchemaTable.{SchemaTable}
use Rattle.schema_tables.specs.declared.names.SchemaTable.TheVariants as t
use Rattle.schema_tables.specs.Cells.{Row, auth_cell}
use Rattle.schema_tables.specs.Shown.{of_user, of_role}
use Rattle.schema_tables.specs.TableRows.{right_row}
use Rattle.definition_schema.specs.Keys.{HasSome}
use Rattle.definition_schema.specs.Constraints.{IsGrantor, IsGrantee, HaveParties}
use Rattle.definition_schema.specs.Definition.{AreDefinitionRows}

-- a privilege that is held, and its row
abbrev pub IsRightRow : List Item → Row → Type 0
IsRightRow c row = (r : Right) × (object : Row) × (flag : Bool) × Contains c (item.Held r) × (row ≡ right_row r object flag)

module _ (c : List Item) (good : IsGood c) (d : SchemaTable → List Row) (are : AreDefinitionRows c d) where
  authorization_row : (name : List ℕ) (y : Item) → Contains c y → IsAuthorization name y → HasSome (d t.Authorizations) (λ a. Some (Words name) ≡ slice_get a 0)
  authorization_row name (item.User n) here e =
      let row : Row = Words n ∷ Words (codes "USER") ∷ [] in
      (row, ((are t.Authorizations tt).members row).1 (of_user n, record { same = false; option = false; role = false }, (tt, here), (refl, refl, refl), Contains-head row []), ap (λ x. Some (Words x)) (sym e))
  authorization_row name (item.Role n) here e =
      let row : Row = Words n ∷ Words (codes "ROLE") ∷ [] in
      (row, ((are t.Authorizations tt).members row).1 (of_role n, record { same = false; option = false; role = false }, (tt, here), (refl, refl, refl), Contains-head row []), ap (λ x. Some (Words x)) (sym e))
  authorization_row name _ here e = absurd e

  pub authorization : (name : List ℕ) → Has c (IsAuthorization name) → HasSome (d t.Authorizations) (λ a. Some (Words name) ≡ slice_get a 0)
  authorization name h = authorization_row name h.0 h.1 h.2

  grantor : (r : Right) (object : Row) (flag : Bool) (by : Auth) → MayGrant false c r by → r.grantor ≡ by → IsGrantor (d t.Authorizations) 0 (right_row r object flag)
  grantor r object flag auths.System may e = inl (ap (λ a. Some (auth_cell a)) e)
  grantor r object flag auths.Public may e = absurd may
  grantor r object flag (auths.Named name) may e = inr (subst (λ x. HasSome (d t.Authorizations) (λ a. Some (auth_cell x) ≡ slice_get a 0)) (sym e) (authorization name may.0))

  grantee : (r : Right) (object : Row) (flag : Bool) (to : Auth) → supported.IsGrantee c to → r.grantee ≡ to → IsGrantee (d t.Authorizations) 1 (right_row r object flag)
  grantee r object flag auths.System stands e = absurd stands
  grantee r object flag auths.Public stands e = inl (ap (λ a. Some (auth_cell a)) e)
  grantee r object flag (auths.Named name) stands e = inr (subst (λ x. HasSome (d t.Authorizations) (λ a. Some (auth_cell x) ≡ slice_get a 0)) (sym e) (authorization name stands))

  pub parties : (rows : List Row) → ((a : Row) → Contains rows a → IsRightRow c a) → HaveParties d rows
  parties rows are_rights = record {
    grantors_stand = λ a here. let p = are_rights a here in subst (IsGrantor (d t.Authorizations) 0) (sym p.4) (grantor p.0 p.1 p.2 p.0.grantor (held_is_granted c good p.0 p.3) refl);
    grantees_stand = λ a here. let p = are_rights a here in subst (IsGrantee (d t.Authorizations) 1) (sym p.4) (grantee p.0 p.1 p.2 p.0.grantee (held_grantee_stands c good p.0 p.3) refl);
  }
