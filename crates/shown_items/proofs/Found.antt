-- What a session sees is found by its places.
use Rattle.std.proofs.Common.{◌≡◌, inl, inr, refl, sym, subst, List, [], ◌∷◌, Some, false}
use Rattle.std.specs.List.{Contains}
use Rattle.sql_names.specs.NameBytes.{NameBytes, PathNames}
use Rattle.sql_names.specs.declared.object.Object.{Object}
use Rattle.sql_tree.specs.declared.rights.Action.{Action}
use Rattle.sql_tree.specs.declared.rights.Action.TheVariants as action
use Rattle.cat_items.specs.declared.need.Auth.TheVariants as auths
use Rattle.cat_items.specs.declared.item.Domain.{Domain}
use Rattle.cat_items.specs.declared.item.Right.{Right}
use Rattle.cat_items.specs.declared.item.Routine.{Routine}
use Rattle.cat_items.specs.declared.item.View.{View}
use Rattle.cat_items.specs.declared.item.Item.{Item}
use Rattle.cat_items.specs.declared.item.Item.TheVariants as item
use Rattle.cat_items.specs.Rights.{path_of, IsObject}
use Rattle.schema_tables.specs.declared.names.SchemaTable.{SchemaTable}
use Rattle.schema_tables.specs.Cells.{Row}
use Rattle.schema_tables.specs.Shown.{Shown}
use Rattle.schema_tables.specs.Sight.{Session, Viewer, IsNeedOn, IsRightOn, IsSchemaOwned}
use Rattle.schema_tables.specs.TableRows.{Beside, rows}
use Rattle.shown_items.specs.Candidates.{IsFaceNear, IsOwnerFace, IsRightFace}
use Rattle.shown_items.specs.Faces.{IsFace, IsItemFace}
use Rattle.shown_items.specs.Own.{AreOwn}
use Rattle.shown_items.specs.Reads.{reads_rights, reads_roles}
use Rattle.shown_items.proofs.Reading as reading

-- the object of a need that is on it

at_table : (a : Action) (path : PathNames) (t : Object) → IsObject a path (item.Table t) → path ≡ path_of t
at_table action.Usage path t h = absurd h
at_table action.Execute path t h = absurd h
at_table action.Admin path t h = absurd h
at_table other path t h = h

at_view : (a : Action) (path : PathNames) (x : View) → IsObject a path (item.View x) → path ≡ path_of x.view
at_view action.Usage path x h = absurd h
at_view action.Execute path x h = absurd h
at_view action.Admin path x h = absurd h
at_view other path x h = h

at_domain : (a : Action) (path : PathNames) (x : Domain) → IsObject a path (item.Domain x) → path ≡ path_of x.domain
at_domain action.Usage path x h = h
at_domain other path x h = absurd h

at_routine : (a : Action) (path : PathNames) (x : Routine) → IsObject a path (item.Routine x) → path ≡ path_of x.routine
at_routine action.Execute path x h = h
at_routine other path x h = absurd h

module _ (c : List Item) (w : Session) (own : List PathNames) (all : AreOwn c w own) (s : Shown) where
  abbrev viewer : Viewer
  viewer = Some w

  by_right : (x : Item) → ((r : Right) → IsNeedOn x r.need → IsRightFace r.need.on c viewer x s) → Contains c x → (y : Item) → Contains c y → IsRightOn w x y → IsFaceNear own c viewer s
  by_right x face there (item.Held r) is h = (r.need.on, all (item.Held r) r.grantee r.need.on is (refl, refl) h.1, inl (x, there, face r h.0))
  by_right x face there y is h = absurd h

  by_owner : (schema : NameBytes) (x : Item) → Contains c x → IsOwnerFace schema c viewer x s → (y : Item) → Contains c y → IsSchemaOwned w schema y → IsFaceNear own c viewer s
  by_owner schema x there face (item.Schema z) is h =
      (z.name ∷ [], all (item.Schema z) (auths.Named z.owner) (z.name ∷ []) is (refl, refl) h.1, inr (z.name, refl, (x, there, subst (λ n. IsOwnerFace n c viewer x s) (sym h.0) face)))
  by_owner schema x there face y is h = absurd h

  module _ (which : SchemaTable) (rights : reads_rights which ≡ false) (roles : reads_roles which ≡ false) (m : Beside) (row : Row) (has : Contains (rows which m s) row) where
    found_near : (y : Item) → Contains c y → IsFace c viewer y s → IsFaceNear own c viewer s
    found_near (item.User name) is f = absurd f.0
    found_near (item.Role name) is f = absurd f.0
    found_near (item.Schema x) is f = by_owner x.name (item.Schema x) is (refl, f) f.0.0 f.0.1 f.0.2
    found_near (item.Table t) is f = by_right (item.Table t) (λ r n. (at_table r.need.action r.need.on t n, f)) is f.0.0 f.0.1 f.0.2
    found_near (item.View x) is (inl f) = by_right (item.View x) (λ r n. (at_view r.need.action r.need.on x n, f)) is f.1.0.0 f.1.0.1 f.1.0.2
    found_near (item.View x) is (inr f) = by_owner x.view.schema (item.View x) is (refl, f) f.0.0 f.0.1 f.0.2
    found_near (item.Column x) is f = by_right (item.Column x) (λ r n. (n.1, f)) is f.1.may.0 f.1.may.1 f.1.may.2
    found_near (item.Domain x) is f = by_right (item.Domain x) (λ r n. (at_domain r.need.action r.need.on x n, f)) is f.1.0.0 f.1.0.1 f.1.0.2
    found_near (item.DomainCheck x) is f = by_owner x.name.schema (item.DomainCheck x) is (refl, f) f.0.0 f.0.1 f.0.2
    found_near (item.Key x) is f = by_owner x.name.schema (item.Key x) is (refl, f) f.0.0 f.0.1 f.0.2
    found_near (item.Foreign x) is f = by_owner x.name.schema (item.Foreign x) is (refl, f) f.0.0 f.0.1 f.0.2
    found_near (item.Check x) is f = by_owner x.name.schema (item.Check x) is (refl, f) f.0.0 f.0.1 f.0.2
    found_near (item.Assertion x) is f = by_owner x.name.schema (item.Assertion x) is (refl, f) f.0.0 f.0.1 f.0.2
    found_near (item.Routine x) is (inl f) = by_right (item.Routine x) (λ r n. (at_routine r.need.action r.need.on x n, f)) is f.1.0.0 f.1.0.1 f.1.0.2
    found_near (item.Routine x) is (inr f) = by_owner x.routine.schema (item.Routine x) is (refl, f) f.0.0 f.0.1 f.0.2
    found_near (item.RoleAuth g) is f = absurd (reading.unread_role_grant c viewer which s m row g roles f has)
    found_near (item.RoleAdmin g) is f = absurd (reading.no_admin_rows c viewer which s m row g f has)
    found_near (item.Held r) is f = absurd (reading.unread_right c viewer which s m row r rights f has)
    found_near (item.Grantable r) is f = absurd (reading.no_grantable_rows c viewer which s m row r f has)

    pub all_found : IsItemFace c viewer s → IsFaceNear own c viewer s
    all_found h = found_near h.0 h.1 h.2

    pub all_found_by : (v : Viewer) → v ≡ viewer → IsItemFace c v s → IsFaceNear own c v s
    all_found_by v e = subst (λ u. IsItemFace c u s → IsFaceNear own c u s) (sym e) all_found
