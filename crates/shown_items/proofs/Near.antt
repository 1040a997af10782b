-- What a right shows of its object, and a schema to its owner, is among what some parts of a catalogue show.
use Rattle.std.proofs.Common.{◌≡◌, inl, inr, refl, sym, ap, subst, ◌∙◌, ℕ, length, slice_get, Bool, true, false, List, [], ◌∷◌, Some, None, arith}
use Rattle.std.specs.Prelude.{IsTrue}
use Rattle.std.specs.Borrow.{Bor}
use Rattle.std.specs.List.{Contains}
use Rattle.sql_names.specs.NameBytes.{NameBytes, PathNames}
use Rattle.sql_names.specs.declared.object.Object.{Object}
use Rattle.cat_items.specs.declared.item.Item.{Item}
use Rattle.cat_items.specs.declared.item.Item.TheVariants as item
use Rattle.cat_items.specs.declared.keys.ObjectKey.{ObjectKey}
use Rattle.cat_items.specs.declared.ranges.ObjectKind.TheVariants as kind
use Rattle.cat_items.specs.declared.ranges.Part.{Part}
use Rattle.cat_items.specs.declared.ranges.Part.TheVariants.{Schema, Table, View, Columns, Domain, Routine, Objects}
use Rattle.cat_items.specs.Keys.{object_of}
use Rattle.cat_items.specs.Reach.{Has}
use Rattle.cat_items.specs.Rights.{path_of}
use Rattle.schema_tables.specs.declared.names.SchemaTable.{SchemaTable}
use Rattle.schema_tables.specs.Cells.{Row}
use Rattle.schema_tables.specs.Shown.{Shown}
use Rattle.schema_tables.specs.Sight.{Viewer}
use Rattle.schema_tables.specs.TableRows.{Beside, rows}
use Rattle.shown_items.specs.Candidates.{IsFaceIn, IsFaceAmong, IsRightFace, IsOwnerFace, IsSchemaFace}
use Rattle.shown_items.specs.Faces.{IsItemFace}
use Rattle.shown_items.specs.Reads.{reads_tables, reads_views, reads_columns, reads_domains, reads_routines, reads_schemata, reads_view_needs, reads_routine_needs, reads_constraints}
use Rattle.shown_items.proofs.Reading as reading

same_object : (a b : Object) → path_of a ≡ path_of b → b ≡ a
same_object a b e =
    let schemas : a.schema ≡ b.schema = cc in
    let names : a.name ≡ b.name = cc in
    λ i. record { schema = sym schemas i; name = sym names i }

-- it is read, since it has rows
is_read : (b : Bool) → (b ≡ false → ⊥) → IsTrue b
is_read true never = refl
is_read false never = absurd (never refl)

abbrev pub right_parts : ObjectKey → List Part
right_parts key = Table key ∷ View key ∷ Columns key ∷ Domain key ∷ Routine key ∷ []

abbrev pub schema_parts : Bor (List ℕ) → List Part
schema_parts schema = Schema schema ∷ Objects kind.View schema ∷ Objects kind.DomainCheck schema ∷ Objects kind.Key schema ∷ Objects kind.Foreign schema ∷ Objects kind.Check schema ∷ Objects kind.Assertion schema ∷ Objects kind.Routine schema ∷ []

module _ (c : List Item) (v : Viewer) where
  pub face_of_part : (which : SchemaTable) (part : Part) (s : Shown) → IsFaceIn which part c v s → IsItemFace c v s
  face_of_part which part s h = (h.1.0, h.1.1, h.1.2.1)

  pub face_of_parts : (which : SchemaTable) (parts : List Part) (s : Shown) → IsFaceAmong which parts c v s → IsItemFace c v s
  face_of_parts which parts s h = face_of_part which h.0 s h.2

  module _ (which : SchemaTable) (s : Shown) (m : Beside) (row : Row) (has : Contains (rows which m s) row) where
    module _ (on : PathNames) (key : ObjectKey) (e : path_of (object_of key) ≡ on) where
      at_key : (o : Object) → on ≡ path_of o → o ≡ object_of key
      at_key o f = same_object (object_of key) o (e ∙ f)

      right_face : (y : Item) → Contains c y → IsRightFace on c v y s → IsFaceAmong which (right_parts key) c v s
      right_face (item.Table t) is f =
          let read = is_read (reads_tables which) (λ n. reading.unread_table c v which s m row t n f.1 has) in
          (Table key, (0, omega arith, refl), (read, (item.Table t, is, (at_key t f.0, f.1))))
      right_face (item.View x) is f =
          let read = is_read (reads_views which) (λ n. reading.unread_view c v which s m row x n (inl f.1) has) in
          (View key, (1, omega arith, refl), (read, (item.View x, is, (at_key x.view f.0, inl f.1))))
      right_face (item.Column x) is f =
          let read = is_read (reads_columns which) (λ n. reading.unread_column c v which s m row x n f.1 has) in
          (Columns key, (2, omega arith, refl), (read, (item.Column x, is, (at_key x.table f.0, f.1))))
      right_face (item.Domain x) is f =
          let read = is_read (reads_domains which) (λ n. reading.unread_domain c v which s m row x n f.1 has) in
          (Domain key, (3, omega arith, refl), (read, (item.Domain x, is, (at_key x.domain f.0, f.1))))
      right_face (item.Routine x) is f =
          let read = is_read (reads_routines which) (λ n. reading.unread_routine c v which s m row x n (inl f.1) has) in
          (Routine key, (4, omega arith, refl), (read, (item.Routine x, is, (at_key x.routine f.0, inl f.1))))
      right_face y is f = absurd f

      pub right_faces : Has c (λ y. IsRightFace on c v y s) → IsFaceAmong which (right_parts key) c v s
      right_faces h = right_face h.0 h.1 h.2

    module _ (schema : Bor (List ℕ)) where
      owner_face : (y : Item) → Contains c y → IsOwnerFace schema.now c v y s → IsFaceAmong which (schema_parts schema) c v s
      owner_face (item.Schema x) is f =
          let read = is_read (reads_schemata which) (λ n. reading.unread_schema c v which s m row x n f.1 has) in
          (Schema schema, (0, omega arith, refl), (read, (item.Schema x, is, (f.0, f.1))))
      owner_face (item.View x) is f =
          let read = is_read (reads_view_needs which) (λ n. reading.unread_view_needs c v which s m row x n f.1 has) in
          (Objects kind.View schema, (1, omega arith, refl), (read, (item.View x, is, ((refl, ap Some f.0), inr f.1))))
      owner_face (item.DomainCheck x) is f =
          let read = is_read (reads_constraints which) (λ n. reading.unread_domain_check c v which s m row x n f.1 has) in
          (Objects kind.DomainCheck schema, (2, omega arith, refl), (read, (item.DomainCheck x, is, ((refl, ap Some f.0), f.1))))
      owner_face (item.Key x) is f =
          let read = is_read (reads_constraints which) (λ n. reading.unread_key c v which s m row x n f.1 has) in
          (Objects kind.Key schema, (3, omega arith, refl), (read, (item.Key x, is, ((refl, ap Some f.0), f.1))))
      owner_face (item.Foreign x) is f =
          let read = is_read (reads_constraints which) (λ n. reading.unread_foreign c v which s m row x n f.1 has) in
          (Objects kind.Foreign schema, (4, omega arith, refl), (read, (item.Foreign x, is, ((refl, ap Some f.0), f.1))))
      owner_face (item.Check x) is f =
          let read = is_read (reads_constraints which) (λ n. reading.unread_check c v which s m row x n f.1 has) in
          (Objects kind.Check schema, (5, omega arith, refl), (read, (item.Check x, is, ((refl, ap Some f.0), f.1))))
      owner_face (item.Assertion x) is f =
          let read = is_read (reads_constraints which) (λ n. reading.unread_assertion c v which s m row x n f.1 has) in
          (Objects kind.Assertion schema, (6, omega arith, refl), (read, (item.Assertion x, is, ((refl, ap Some f.0), f.1))))
      owner_face (item.Routine x) is f =
          let read = is_read (reads_routine_needs which) (λ n. reading.unread_routine_needs c v which s m row x n f.1 has) in
          (Objects kind.Routine schema, (7, omega arith, refl), (read, (item.Routine x, is, ((refl, ap Some f.0), inr f.1))))
      owner_face y is f = absurd f

      pub owner_faces : Has c (λ y. IsOwnerFace schema.now c v y s) → IsFaceAmong which (schema_parts schema) c v s
      owner_faces h = owner_face h.0 h.1 h.2

  -- a path that no object has
  no_object : (on : PathNames) → ((o : Object) → path_of o ≡ on → ⊥) → (s : Shown) (y : Item) → IsRightFace on c v y s → ⊥
  no_object on none s (item.Table t) f = none t (sym f.0)
  no_object on none s (item.View x) f = none x.view (sym f.0)
  no_object on none s (item.Column x) f = none x.table (sym f.0)
  no_object on none s (item.Domain x) f = none x.domain (sym f.0)
  no_object on none s (item.Routine x) f = none x.routine (sym f.0)
  no_object on none s y f = f

  pub no_right_faces : (on : PathNames) → ((o : Object) → path_of o ≡ on → ⊥) → (s : Shown) → Has c (λ y. IsRightFace on c v y s) → ⊥
  no_right_faces on none s h = no_object on none s h.0 h.2

  -- a path of one name is that of its schema, and no other is
  pub no_schema : (on : PathNames) → ((length on ≡ 1) → ⊥) → (s : Shown) → IsSchemaFace on c v s → ⊥
  no_schema on other s h = other (ap length h.1)

  pub at_schema : (on : PathNames) (name : NameBytes) → Some name ≡ slice_get on 0 → (s : Shown) → IsSchemaFace on c v s → Has c (λ y. IsOwnerFace name c v y s)
  at_schema on name is s h =
      let first : Some name ≡ Some h.0 = is ∙ ap (λ l. slice_get l 0) h.1 in
      let same : name ≡ h.0 = cc in
      subst (λ n. Has c (λ y. IsOwnerFace n c v y s)) (sym same) h.2

  pub nameless : (on : PathNames) → None ≡ slice_get on 0 → (s : Shown) → IsSchemaFace on c v s → ⊥
  nameless on is s h = let odd : None ≡ Some h.0 = is ∙ ap (λ l. slice_get l 0) h.1 in cc
