-- What is shown of a descriptor is its look, by whether its schema is owned.
use Rattle.std.proofs.Common.{◌≡◌, refl, sym, ap, ◌∙◌, ℕ, Bool, List, Some}
use Rattle.std.specs.Prelude.{◌↔◌, IsTrue}
use Rattle.cat_items.specs.declared.item.Column.{Column}
use Rattle.cat_items.specs.declared.item.Domain.{Domain}
use Rattle.cat_items.specs.declared.item.Routine.{Routine}
use Rattle.cat_items.specs.declared.item.View.{View}
use Rattle.cat_items.specs.declared.item.Item.{Item}
use Rattle.cat_items.specs.declared.item.Item.TheVariants as item
use Rattle.schema_tables.specs.Shown.{Shown, ShownView, ShownColumn, ShownDomain, ShownRoutine, of_view, of_column, of_domain, of_routine}
use Rattle.schema_tables.specs.Sight.{Viewer, Owns, HasRightOn, IsPosition, IsShownView, IsShownColumn, IsShownDomain, IsShownRoutine}
use Rattle.shown_items.specs.Faces.{IsViewFace, IsColumnFace, IsDomainFace, IsRoutineFace}
use Rattle.shown_items.specs.Looks.{view_look, column_look, domain_look, routine_look}
use Rattle.shown_items.proofs.Owning.{shown_where, one_where}

module _ (c : List Item) (v : Viewer) (may owned : Bool) where
  view_one : (x : View) → IsTrue owned ↔ Owns c v x.view.schema → (p : ShownView) → IsShownView c v x p → p ≡ view_look x owned
  view_one x o p h =
      let q = one_where (Owns c v x.view.schema) owned o (Some x.query) p.query h.2 in
      λ i. record { view = h.1 i; query = q i; plain = h.3 i }

  pub view_face : (x : View) → IsTrue may ↔ HasRightOn c v (item.View x) → IsTrue owned ↔ Owns c v x.view.schema → (look : ShownView) → look ≡ view_look x owned → (s : Shown) → (IsTrue may × (s ≡ of_view look)) ↔ IsViewFace c v x s
  view_face x m o look e s = (
    λ h. (view_look x owned, (m.0 h.0, refl, shown_where (Owns c v x.view.schema) owned o (Some x.query), refl), h.1 ∙ ap of_view e),
    λ h. (m.1 h.1.0, h.2 ∙ ap of_view (view_one x o h.0 h.1 ∙ sym e)),
  )

  domain_one : (x : Domain) → IsTrue owned ↔ Owns c v x.domain.schema → (p : ShownDomain) → IsShownDomain c v x p → p ≡ domain_look x owned
  domain_one x o p h =
      let q = one_where (Owns c v x.domain.schema) owned o x.default p.default h.3 in
      λ i. record { domain = h.1 i; sort = h.2 i; default = q i }

  pub domain_is : (x : Domain) → HasRightOn c v (item.Domain x) → IsTrue owned ↔ Owns c v x.domain.schema → IsShownDomain c v x (domain_look x owned)
  domain_is x m o = (m, refl, refl, shown_where (Owns c v x.domain.schema) owned o x.default)

  pub domain_face : (x : Domain) → IsTrue may ↔ HasRightOn c v (item.Domain x) → IsTrue owned ↔ Owns c v x.domain.schema → (look : ShownDomain) → look ≡ domain_look x owned → (s : Shown) → (IsTrue may × (s ≡ of_domain look)) ↔ IsDomainFace c v x s
  domain_face x m o look e s = (
    λ h. (domain_look x owned, domain_is x (m.0 h.0) o, h.1 ∙ ap of_domain e),
    λ h. (m.1 h.1.0, h.2 ∙ ap of_domain (domain_one x o h.0 h.1 ∙ sym e)),
  )

  routine_one : (x : Routine) → IsTrue owned ↔ Owns c v x.routine.schema → (p : ShownRoutine) → IsShownRoutine c v x p → p ≡ routine_look x owned
  routine_one x o p h =
      let q = one_where (Owns c v x.routine.schema) owned o (Some x.body) p.body h.4 in
      λ i. record { routine = h.1 i; params = h.2 i; returns = h.3 i; body = q i }

  pub routine_face : (x : Routine) → IsTrue may ↔ HasRightOn c v (item.Routine x) → IsTrue owned ↔ Owns c v x.routine.schema → (look : ShownRoutine) → look ≡ routine_look x owned → (s : Shown) → (IsTrue may × (s ≡ of_routine look)) ↔ IsRoutineFace c v x s
  routine_face x m o look e s = (
    λ h. (routine_look x owned, (m.0 h.0, refl, refl, refl, shown_where (Owns c v x.routine.schema) owned o (Some x.body)), h.1 ∙ ap of_routine e),
    λ h. (m.1 h.1.0, h.2 ∙ ap of_routine (routine_one x o h.0 h.1 ∙ sym e)),
  )

  column_one : (x : Column) (n : ℕ) → ((k : ℕ) → IsPosition c x k → k ≡ n) → IsTrue owned ↔ Owns c v x.table.schema → (p : ShownColumn) → IsShownColumn c v x p → p ≡ column_look x n owned
  column_one x n only o p h =
      let q = one_where (Owns c v x.table.schema) owned o x.default p.default h.default in
      let at : p.position ≡ n = only p.position h.position in
      λ i. record { table = h.table i; name = h.name i; position = at i; default = q i; not_null = h.not_null i; sort = h.sort i; domain = h.domain i }

  pub column_face : (x : Column) (n : ℕ) → IsPosition c x n → ((k : ℕ) → IsPosition c x k → k ≡ n) → IsTrue may ↔ HasRightOn c v (item.Column x) → IsTrue owned ↔ Owns c v x.table.schema
      → (look : ShownColumn) → look ≡ column_look x n owned → (s : Shown) → (IsTrue may × (s ≡ of_column look)) ↔ IsColumnFace c v x s
  column_face x n at only m o look e s = (
    λ h. (
      column_look x n owned,
      record { may = m.0 h.0; table = refl; name = refl; position = at; default = shown_where (Owns c v x.table.schema) owned o x.default; not_null = refl; sort = refl; domain = refl },
      h.1 ∙ ap of_column e,
    ),
    λ h. (m.1 h.1.may, h.2 ∙ ap of_column (column_one x n only o h.0 h.1 ∙ sym e)),
  )
