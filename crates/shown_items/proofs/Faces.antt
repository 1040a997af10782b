-- What is shown of a catalogue is what its items show, and the enabled roles.
use Rattle.std.proofs.Common.{◌≡◌, ◌⊎◌, inl, inr, refl, sym, ap, subst, List, [], ℕ, Some}
use Rattle.finite_chains.proofs.Members.{Contains-nil}
use Rattle.std.specs.Prelude.{◌↔◌}
use Rattle.std.specs.List.{Contains}
use Rattle.cat_items.specs.declared.item.Item.{Item}
use Rattle.cat_items.specs.declared.item.Item.TheVariants as item
use Rattle.schema_tables.specs.Shown.{Shown, of_user, of_role, of_enabled_role, of_role_auth, of_role_admin, of_schema, of_table, of_view, of_column, of_domain, of_domain_check, of_key, of_foreign, of_check, of_assertion, of_routine, of_view_needs, of_routine_needs, of_held, of_grantable}
use Rattle.schema_tables.specs.declared.names.SchemaTable.{SchemaTable}
use Rattle.schema_tables.specs.Cells.{Row}
use Rattle.schema_tables.specs.Listings.{AreRows}
use Rattle.schema_tables.specs.Sight.{Session, Viewer, IsShown}
use Rattle.schema_tables.specs.TableRows.{HasRow}
use Rattle.shown_items.specs.Faces.{IsFace, IsItemFace, IsEnabledFace, AddsRows}
use Rattle.shown_items.proofs.Adding.{Among}

module _ (c : List Item) (v : Viewer) where
  has_face : (s : Shown) → IsShown c v s → IsItemFace c v s ⊎ IsEnabledFace v s
  has_face (of_user name) h = inl (item.User name, h.1, (h.0, refl))
  has_face (of_role name) h = inl (item.Role name, h.1, (h.0, refl))
  has_face (of_enabled_role name) h = inr (name, h, refl)
  has_face (of_role_auth g) h = inl (item.RoleAuth g, h.0, (h.1, refl))
  has_face (of_role_admin g) h = inl (item.RoleAdmin g, h.0, (h.1, refl))
  has_face (of_schema x) h = inl (item.Schema x, h.0, (h.1, refl))
  has_face (of_table t) h = inl (item.Table t, h.0, (h.1, refl))
  has_face (of_view p) h = inl (item.View h.0, h.1, inl (p, h.2, refl))
  has_face (of_column p) h = inl (item.Column h.0, h.1, (p, h.2, refl))
  has_face (of_domain p) h = inl (item.Domain h.0, h.1, (p, h.2, refl))
  has_face (of_domain_check d) h = inl (item.DomainCheck d, h.0, (h.1, refl))
  has_face (of_key k) h = inl (item.Key k, h.0, (h.1, refl))
  has_face (of_foreign f) h = inl (item.Foreign f, h.0, (h.1, refl))
  has_face (of_check x) h = inl (item.Check x, h.0, (h.1, refl))
  has_face (of_assertion a) h = inl (item.Assertion a, h.0, (h.1, refl))
  has_face (of_routine p) h = inl (item.Routine h.0, h.1, inl (p, h.2, refl))
  has_face (of_view_needs n) h = inl (item.View h.0, h.1, inr (h.2, ap of_view_needs h.3))
  has_face (of_routine_needs n) h = inl (item.Routine h.0, h.1, inr (h.2, ap of_routine_needs h.3))
  has_face (of_held r) h = inl (item.Held r, h.0, (h.1, refl))
  has_face (of_grantable r) h = inl (item.Grantable r, h.0, (h.1, refl))

  of_item : (s : Shown) (y : Item) → Contains c y → IsFace c v y s → IsShown c v s
  of_item s (item.User name) is f = subst (IsShown c v) (sym f.1) (f.0, is)
  of_item s (item.Role name) is f = subst (IsShown c v) (sym f.1) (f.0, is)
  of_item s (item.Schema x) is f = subst (IsShown c v) (sym f.1) (is, f.0)
  of_item s (item.Table t) is f = subst (IsShown c v) (sym f.1) (is, f.0)
  of_item s (item.View x) is (inl f) = subst (IsShown c v) (sym f.2) (x, is, f.1)
  of_item s (item.View x) is (inr f) = subst (IsShown c v) (sym f.1) (x, is, f.0, refl)
  of_item s (item.Column x) is f = subst (IsShown c v) (sym f.2) (x, is, f.1)
  of_item s (item.Domain x) is f = subst (IsShown c v) (sym f.2) (x, is, f.1)
  of_item s (item.DomainCheck x) is f = subst (IsShown c v) (sym f.1) (is, f.0)
  of_item s (item.Key x) is f = subst (IsShown c v) (sym f.1) (is, f.0)
  of_item s (item.Foreign x) is f = subst (IsShown c v) (sym f.1) (is, f.0)
  of_item s (item.Check x) is f = subst (IsShown c v) (sym f.1) (is, f.0)
  of_item s (item.Assertion x) is f = subst (IsShown c v) (sym f.1) (is, f.0)
  of_item s (item.Routine x) is (inl f) = subst (IsShown c v) (sym f.2) (x, is, f.1)
  of_item s (item.Routine x) is (inr f) = subst (IsShown c v) (sym f.1) (x, is, f.0, refl)
  of_item s (item.RoleAuth g) is f = subst (IsShown c v) (sym f.1) (is, f.0)
  of_item s (item.RoleAdmin g) is f = subst (IsShown c v) (sym f.1) (is, f.0)
  of_item s (item.Held r) is f = subst (IsShown c v) (sym f.1) (is, f.0)
  of_item s (item.Grantable r) is f = subst (IsShown c v) (sym f.1) (is, f.0)

  from_face : (s : Shown) → IsItemFace c v s ⊎ IsEnabledFace v s → IsShown c v s
  from_face s (inl f) = of_item s f.0 f.1 f.2
  from_face s (inr f) = subst (IsShown c v) (sym f.2) f.1

  pub shown_faces : (s : Shown) → (IsItemFace c v s ⊎ IsEnabledFace v s) ↔ IsShown c v s
  shown_faces s = (from_face s, has_face s)

pub enabled_faces : (v : Viewer) (w : Session) (names : List (List ℕ)) → v ≡ Some w → names ≡ w.enabled → (s : Shown) → Among names (λ (name : List ℕ) (t : Shown). t ≡ of_enabled_role name) s ↔ IsEnabledFace v s
enabled_faces v w names e f s = (
  λ h. subst (λ u. IsEnabledFace u s) (sym e) (h.0, subst (λ l. Contains l h.0) f h.1, h.2),
  λ h. let k = subst (λ u. IsEnabledFace u s) e h in (k.0, subst (λ l. Contains l k.0) (sym f) k.1, k.2),
)

-- the rows of a list that had none before
pub rows_are : (P : Shown → Type 0) (which : SchemaTable) (old new all : List Row) → old ≡ [] → AddsRows P P which old new → AreRows (Contains new) all → AreRows (HasRow P which) all
rows_are P which old new all empty added are = record {
  order = are.order;
  members = λ row. (
    λ h. elim ((added row).0 ((are.members row).0 h)) [
      | inl k ↦ absurd (Contains-nil row (subst (λ l. Contains l row) empty k))
      | inr k ↦ k
    ],
    λ h. (are.members row).1 ((added row).1 (inr h)),
  );
}
