-- What references and calls give has a type, and so has all that a good catalogue says of names.
use Rattle.std.proofs.Common.{◌≡◌, Bool, true, false, List, [], ◌∷◌, Option, Some, None, refl, sym, subst, inl, inr}
use Rattle.std.specs.Prelude.{flat_map, option_and_then, bytes_eq, if◌then◌else◌}
use Rattle.std.specs.List.{Contains}
use Rattle.std.proofs.lemmas.List.Elements.{Contains-append_cases}
use Rattle.finite_chains.proofs.Members.{Contains-cases, Contains-head, Contains-nil, Contains-tail}
use Rattle.sql_names.specs.NameBytes.{NameBytes}
use Rattle.sql_names.specs.declared.column.ObjectName.{ObjectName}
use Rattle.sql_names.specs.declared.column.Reference.{Reference}
use Rattle.sql_names.specs.declared.column.Reference.TheVariants as references
use Rattle.sql_names.specs.declared.object.Object.{Object}
use Rattle.sql_names.specs.declared.sort.Param.{Param}
use Rattle.sql_names.specs.declared.sort.SqlType.{SqlType}
use Rattle.name_scopes.specs.declared.frames.Tab.{Tab}
use Rattle.name_scopes.specs.declared.scope.Signature.{Signature}
use Rattle.name_scopes.specs.Frames.{Frames, tab_at}
use Rattle.name_scopes.specs.Known.{Known, column_in, full, same_object, sort_of}
use Rattle.type_rules.specs.Rules.{all_fit}
use Rattle.type_rules.specs.TypeParts.{called, param_sorts, reference, returned, routine}
use Rattle.cat_items.specs.declared.item.Item.{Item}
use Rattle.cat_items.specs.declared.item.Item.TheVariants as item
use Rattle.cat_items.specs.Good.{IsGood}
use Rattle.cat_items.specs.Pieces.{IsType}
use Rattle.cat_items.specs.Shape.{HasReturnType}
use Rattle.view_deps.specs.Described.{columns_in, first_of, known_of, routines_in, signature_of}
use Rattle.view_deps.specs.Views.{query_scope}
use Rattle.typed_trees.specs.Typed.{HaveTypes}
use Rattle.typed_trees.proofs.RuleTypes.{HasType, has_type_if, holds_then}
use Rattle.typed_trees.proofs.TypedParts.{anything}

-- ---- references and calls

column_in_typed : (c : NameBytes) (xs : List Param) → ((x : Param) → Contains xs x → IsType x.sort) → HasType (column_in c xs)
column_in_typed c [] h = tt
column_in_typed c (x ∷ xs) h = has_type_if (bytes_eq x.name c) (Some x.sort) (column_in c xs) (λ e. h x (Contains-head x xs)) (column_in_typed c xs (λ y there. h y (Contains-tail x xs y there)))

returned_typed : (params : List SqlType) (returns : Option SqlType) (sorts : Option (List SqlType)) → HasType returns → HasType (returned params returns sorts)
returned_typed params returns None h = tt
returned_typed params returns (Some sorts) h = has_type_if (all_fit params sorts) returns None (λ e. h) tt

module _ (k : Known) (schema : NameBytes) (have : HaveTypes k) where
  sort_typed : (t : Object) (c : NameBytes) → HasType (sort_of k t c)
  sort_typed t c = by (k.columns t) refl
    where
      by : (o : Option (List Param)) → k.columns t ≡ o → HasType (option_and_then (column_in c) o)
      by None e = tt
      by (Some xs) e = column_in_typed c xs (have.columns t xs e)

  pub reference_typed : (r : Reference) (s : Frames) → HasType (reference k (query_scope schema) r s)
  reference_typed (references.Cell up at q c) s = holds_then (λ t. Unit {0}) IsType (λ (t : Tab). sort_of k t.table c) (tab_at s up at) (anything (tab_at s up at)) (λ t p. sort_typed t.table c)
  reference_typed r s = tt

  returns_typed : (o : Object) (f : Signature) → k.routine o ≡ Some f → HasType f.returns
  returns_typed o f e = by f.returns refl
    where
      by : (r : Option SqlType) → f.returns ≡ r → HasType r
      by None is = tt
      by (Some sort) is = have.returns o f sort e is

  pub called_typed : (name : ObjectName) (sorts : Option (List SqlType)) → HasType (called (routine k (query_scope schema) name) sorts)
  called_typed name sorts = by (k.routine (full (query_scope schema) name)) refl
    where
      by : (o : Option Signature) → k.routine (full (query_scope schema) name) ≡ o → HasType (called o sorts)
      by None e = tt
      by (Some f) e = returned_typed (param_sorts f) f.returns sorts (returns_typed (full (query_scope schema) name) f e)

-- ---- a good catalogue

module _ (c : List Item) (good : IsGood c) where
  -- a column that is told of a table is that of one of its descriptors
  of_item : (o : Object) (y : Item) → Contains c y → (x : Param) → Contains (columns_in o y) x → IsType x.sort
  of_item o (item.Column column) there x h = by (same_object column.table o) h
    where
      told : Param
      told = record { name = column.name; sort = column.sort }

      by : (b : Bool) → Contains (if b then told ∷ [] else []) x → IsType x.sort
      by true m =
          elim (Contains-cases told [] x m) [
            | inl same ↦ subst (λ (p : Param). IsType p.sort) same (good.shape.trees (item.Column column) there).0
            | inr none ↦ absurd (Contains-nil x none)
          ]
      by false m = absurd (Contains-nil x m)
  of_item o y there x h = absurd (Contains-nil x h)

  of_items : (o : Object) (items : List Item) → ((y : Item) → Contains items y → Contains c y) → (x : Param) → Contains (flat_map (columns_in o) items) x → IsType x.sort
  of_items o [] within x h = absurd (Contains-nil x h)
  of_items o (y ∷ items) within x h =
      elim (Contains-append_cases (columns_in o y) (flat_map (columns_in o) items) x h) [
        | inl here ↦ of_item o y (within y (Contains-head y items)) x here
        | inr later ↦ of_items o items (λ z m. within z (Contains-tail y items z m)) x later
      ]

  told_columns : (o : Object) (b : Bool) (columns : List Param) → (if b then Some (flat_map (columns_in o) c) else None) ≡ Some columns → (x : Param) → Contains columns x → IsType x.sort
  told_columns o true columns e x h =
      let same : flat_map (columns_in o) c ≡ columns = (let is : Some (flat_map (columns_in o) c) ≡ Some columns = e in cc) in of_items o c (λ y m. m) x (subst (λ l. Contains l x) (sym same) h)
  told_columns o false columns e x h = absurd (let odd : None ≡ Some columns = e in cc)

  -- the routine that is told is that of one of the descriptors
  routine_of_item : (o : Object) (y : Item) → Contains c y → (f : Signature) → Contains (routines_in o y) f → HasReturnType f.returns
  routine_of_item o (item.Routine r) there f h = by (same_object r.routine o) h
    where
      by : (b : Bool) → Contains (if b then signature_of r ∷ [] else []) f → HasReturnType f.returns
      by true m =
          elim (Contains-cases (signature_of r) [] f m) [
            | inl same ↦ subst (λ (g : Signature). HasReturnType g.returns) same (good.shape.trees (item.Routine r) there).1
            | inr none ↦ absurd (Contains-nil f none)
          ]
      by false m = absurd (Contains-nil f m)
  routine_of_item o y there f h = absurd (Contains-nil f h)

  routine_of_items : (o : Object) (items : List Item) → ((y : Item) → Contains items y → Contains c y) → (f : Signature) → Contains (flat_map (routines_in o) items) f → HasReturnType f.returns
  routine_of_items o [] within f h = absurd (Contains-nil f h)
  routine_of_items o (y ∷ items) within f h =
      elim (Contains-append_cases (routines_in o y) (flat_map (routines_in o) items) f h) [
        | inl here ↦ routine_of_item o y (within y (Contains-head y items)) f here
        | inr later ↦ routine_of_items o items (λ z m. within z (Contains-tail y items z m)) f later
      ]

  first_there : (fs : List Signature) (f : Signature) → first_of fs ≡ Some f → Contains fs f
  first_there [] f e = absurd (let odd : None ≡ Some f = e in cc)
  first_there (g ∷ gs) f e = let same : g ≡ f = (let is : Some g ≡ Some f = e in cc) in subst (Contains (g ∷ gs)) same (Contains-head g gs)

  return_type : (f : Signature) (sort : SqlType) → HasReturnType f.returns → f.returns ≡ Some sort → IsType sort
  return_type f sort h e = subst HasReturnType e h

  pub good_has_types : HaveTypes (known_of c)
  good_has_types = record {
    columns = λ o columns e x h. told_columns o _ columns e x h;
    returns = λ o f sort e is. return_type f sort (routine_of_items o c (λ y m. m) f (first_there (flat_map (routines_in o) c) f e)) is;
  }
