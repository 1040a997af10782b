-- Keys that a statement sees, and the keys of foreign keys among them.
use Rattle.std.proofs.Common.{◌≡◌, ◌⊎◌, ◌↔◌, inl, inr, Bool, true, false, List, [], ◌∷◌, Some, None, refl, ap, sym, subst, ◌∙◌}
use Rattle.std.specs.Prelude.{if◌then◌else◌, bytes_eq}
use Rattle.std.specs.List.{Contains}
use Rattle.finite_chains.proofs.Members.{Contains-nil, Contains-cases}
use Rattle.sql_names.specs.NameBytes.{NameBytes}
use Rattle.sql_names.specs.declared.object.Object.{Object}
use Rattle.sql_tree.specs.declared.table.References.{References}
use Rattle.sql_tree.specs.declared.table.TableConstraintKind.{TableConstraintKind}
use Rattle.sql_tree.specs.declared.table.TableConstraintKind.TheVariants as kinds
use Rattle.cat_items.specs.declared.edit.Edit.{Edit}
use Rattle.cat_items.specs.declared.edit.Who.{Who}
use Rattle.cat_items.specs.declared.item.Foreign.{Foreign}
use Rattle.cat_items.specs.declared.item.Key.{Key}
use Rattle.cat_items.specs.declared.item.Item.{Item}
use Rattle.cat_items.specs.declared.item.Item.TheVariants as item
use Rattle.name_scopes.specs.Known.{same_object}
use Rattle.edit_laws.specs.Proper.{Leaves, IsKeyFor}
use Rattle.table_parts.proofs.ListMembers.{from_filter_map, from_flat_map}
use Rattle.table_names.specs.declared.named.NamedConstraint.{NamedConstraint}
use Rattle.table_names.specs.Given.{target_of}
use Rattle.table_work.specs.declared.work.Work.{Work}
use Rattle.table_work.specs.Keys.{FitsColumns, IsBound, columns_meant, key_named, own_key, own_keys}
use Rattle.table_work.specs.Seen.{is_key_of, key_here, keys_in, keys_seen}
use Rattle.table_work.proofs.MeantKeys.{meant_among}
use Rattle.table_work.proofs.RangeMakings.{both_true, same_or_not}
use Rattle.table_types.specs.ForeignKeys.{foreign_key}
use Rattle.table_constraints.specs.Formed.{SeesKeysThatAreLeft}
use Rattle.table_constraints.specs.Made.{MakesForeign}

-- ---- look-ups

pub object_is : (a b : Object) → same_object a b ≡ true → a ≡ b
object_is a b e = elim (same_or_not a b) [ inl other ↦ absurd (let odd : false ≡ true = sym other ∙ e in cc) | inr same ↦ same ]

-- a member of a list that has one where a test is true
pub one_if : {X : Type 0} (b : Bool) (x y : X) → Contains (if b then x ∷ [] else []) y → (b ≡ true) × (x ≡ y)
one_if true x y h = elim (Contains-cases x [] y h) [ inl e ↦ (refl, e) | inr none ↦ absurd (Contains-nil y none) ]
one_if false x y h = absurd (Contains-nil y h)

key_from : (t : Object) (y : Item) (k : Key) → Contains (key_here t y) k → (y ≡ item.Key k) × (k.table ≡ t)
key_from t (item.Key m) k h =
    let one = one_if (is_key_of t m) m k h in
    let tables : same_object m.table t ≡ true = (both_true (same_object m.table t) (bytes_eq m.name.schema t.schema) one.0).0 in
    (ap item.Key one.1, subst (λ (z : Key). z.table ≡ t) one.1 (object_is m.table t tables))
key_from t y k h = absurd (Contains-nil k h)

-- a key of a table of the catalogue
pub keys_from : (c : List Item) (t : Object) (k : Key) → Contains (keys_in c t) k → Contains c (item.Key k) × (k.table ≡ t)
keys_from c t k h =
    let of = from_flat_map (key_here t) c k h in
    let is = key_from t of.0 k of.2 in
    (subst (Contains c) is.0 of.1, is.1)

-- a key that is seen is an own one, or one of the catalogue
pub seen_cases : (c : List Item) (w : Work) (t : Object) (k : Key) → Contains (keys_seen c w t) k → ((t ≡ w.table) × Contains w.keys k) ⊎ (Contains c (item.Key k) × (k.table ≡ t))
seen_cases c w t k h = by (same_object t w.table) refl h
  where
    by : (b : Bool) → same_object t w.table ≡ b → Contains (if b then w.keys else keys_in c t) k → ((t ≡ w.table) × Contains w.keys k) ⊎ (Contains c (item.Key k) × (k.table ≡ t))
    by true e own = inl (object_is t w.table e, own)
    by false e there = inr (keys_from c t k there)

table_of : (table : Object) (name : NameBytes) (kind : TableConstraintKind) (k : Key) → key_named table name kind ≡ Some k → k.table ≡ table
table_of table name (kinds.PrimaryKey columns) k e = cc
table_of table name (kinds.Unique columns) k e = cc
table_of table name kind k e = absurd (let odd : None ≡ Some k = e in cc)

-- an own key is made by one of the constraints
pub own_from : (table : Object) (named : List NamedConstraint) (k : Key) → Contains (own_keys table named) k → (k.table ≡ table) × ((n : NamedConstraint) × Contains named n × (own_key table n ≡ Some k))
own_from table named k h = let of = from_filter_map (own_key table) named k h in (table_of table of.0.name of.0.kind k of.2, of)

-- ---- foreign keys

meant_columns : (written : List NameBytes) (k : Key) → FitsColumns written k → (name : NameBytes) → Contains k.columns name ↔ Contains (columns_meant written k) name
meant_columns [] k fits name = (λ h. h, λ h. h)
meant_columns (first ∷ others) k fits name = fits name

bound_is_left : (c : List Item) (who : Who) (w : Work) (edit : Edit) (f : Foreign) (name : NameBytes) (columns : List NameBytes) (references : References) (k : Key)
    → SeesKeysThatAreLeft c edit w → IsBound (keys_seen c w (target_of who references)) columns references.columns k → f ≡ foreign_key who w.table name columns references k → Leaves c edit (IsKeyFor f)
bound_is_left c who w edit f name columns references k sees bound e =
    let stands = sees (target_of who references) k (meant_among (keys_seen c w (target_of who references)) references.columns k bound.meant) in
    (item.Key k, stands.1, subst (λ (z : Foreign). IsKeyFor z (item.Key k)) (sym e) (refl, stands.0, meant_columns references.columns k bound.meant.fits))

-- a foreign key's key is left
pub foreign_fits : (c : List Item) (who : Who) (w : Work) (edit : Edit) (name : NameBytes) (kind : TableConstraintKind) (f : Foreign) → SeesKeysThatAreLeft c edit w → MakesForeign c who w name kind f → Leaves c edit (IsKeyFor f)
foreign_fits c who w edit name (kinds.ForeignKey columns references) f sees made = bound_is_left c who w edit f name columns references made.0 sees made.1 made.2
foreign_fits c who w edit name kind f sees made = absurd made
