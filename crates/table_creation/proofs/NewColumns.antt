-- The columns of a table that is made: their definitions, places and names.
use Rattle.std.proofs.Common.{◌≡◌, ℕ, ◌+◌, ◌≤◌, List, [], ◌∷◌, refl, ap, sym, subst, ◌∙◌, inl, inr, arith}
use Rattle.std.specs.List.{AllPairs, Contains}
use Rattle.finite_chains.proofs.Members.{Contains-nil, Contains-head, Contains-tail, Contains-cases}
use Rattle.sql_names.specs.declared.object.Object.{Object}
use Rattle.sql_tree.specs.declared.table.ColumnDefinition.{ColumnDefinition}
use Rattle.cat_items.specs.declared.edit.Who.{Who}
use Rattle.cat_items.specs.declared.item.Column.{Column}
use Rattle.cat_items.specs.declared.item.Item.{Item}
use Rattle.table_parts.specs.declared.parts.Part.{Part}
use Rattle.table_parts.specs.Columns.{default_in}
use Rattle.table_parts.proofs.Differing.{AreOtherColumns}
use Rattle.table_parts.proofs.Pairs.{WithLater, with_later}
use Rattle.table_work.specs.Columns.{column_made, columns_from, domain_of, sort_of}

-- what a definition says of its column
pub record IsDefined (c : List Item) (who : Who) (table : Object) (d : ColumnDefinition) (x : Column) : Type 0 where
  pub table_is : x.table ≡ table
  pub name : x.name ≡ d.column
  pub sort : x.sort ≡ sort_of c who d.sort
  pub domain : x.domain ≡ domain_of who d.sort
  pub default : x.default ≡ default_in d.options

module _ (c : List Item) (who : Who) (table : Object) (all : List Part) where
  abbrev From : ℕ → List ColumnDefinition → List Column
  From place ds = columns_from c who table all place ds

  -- each column is defined
  pub definition_of : (place : ℕ) (ds : List ColumnDefinition) (x : Column) → Contains (From place ds) x → (d : ColumnDefinition) × Contains ds d × IsDefined c who table d x
  definition_of place [] x h = absurd (Contains-nil x h)
  definition_of place (d ∷ ds) x h =
      elim (Contains-cases (column_made c who table all place d) (From (place + 1) ds) x h) [
        | inl e ↦ (d, Contains-head d ds, subst (IsDefined c who table d) e (record { table_is = refl; name = refl; sort = refl; domain = refl; default = refl }))
        | inr later ↦ let of = definition_of (place + 1) ds x later in (of.0, Contains-tail d ds of.0 of.1, of.2)
      ]

  -- at places from the first on
  places_from : (place : ℕ) (ds : List ColumnDefinition) (x : Column) → Contains (From place ds) x → place ≤ x.place
  places_from place [] x h = absurd (Contains-nil x h)
  places_from place (d ∷ ds) x h =
      elim (Contains-cases (column_made c who table all place d) (From (place + 1) ds) x h) [
        | inl e ↦ let at : x.place ≡ place = ap (λ (z : Column). z.place) (sym e) in omega (arith, at)
        | inr later ↦ let behind = places_from (place + 1) ds x later in omega (arith, behind)
      ]

  never_there : (place : ℕ) (d : ColumnDefinition) (ds : List ColumnDefinition) (x y : Column) → column_made c who table all place d ≡ x → Contains (From (place + 1) ds) y → x.place ≡ y.place → ⊥
  never_there place d ds x y e later same =
      let at : place ≡ x.place = ap (λ (z : Column). z.place) e in
      let behind = places_from (place + 1) ds y later in
      omega (arith, at, same, behind)

  -- columns of one place are one
  pub one_by_place : (place : ℕ) (ds : List ColumnDefinition) (x y : Column) → Contains (From place ds) x → Contains (From place ds) y → x.place ≡ y.place → x ≡ y
  one_by_place place [] x y h k same = absurd (Contains-nil x h)
  one_by_place place (d ∷ ds) x y h k same =
      elim (Contains-cases (column_made c who table all place d) (From (place + 1) ds) x h) [
        | inl e ↦ elim (Contains-cases (column_made c who table all place d) (From (place + 1) ds) y k) [
          | inl f ↦ sym e ∙ f
          | inr behind ↦ absurd (never_there place d ds x y e behind same)
        ]
        | inr later ↦ elim (Contains-cases (column_made c who table all place d) (From (place + 1) ds) y k) [
          | inl f ↦ absurd (never_there place d ds y x f later (sym same))
          | inr behind ↦ one_by_place (place + 1) ds x y later behind same
        ]
      ]

  never_called : (place : ℕ) (d : ColumnDefinition) (ds : List ColumnDefinition) (x y : Column) → ((other : ColumnDefinition) → Contains ds other → AreOtherColumns d other)
      → column_made c who table all place d ≡ x → Contains (From (place + 1) ds) y → x.name ≡ y.name → ⊥
  never_called place d ds x y others e later same =
      let of = definition_of (place + 1) ds y later in
      others of.0 of.1 (ap (λ (z : Column). z.name) e ∙ same ∙ of.2.name)

  named_once : (place : ℕ) (ds : List ColumnDefinition) (x y : Column) → WithLater AreOtherColumns ds → Contains (From place ds) x → Contains (From place ds) y → x.name ≡ y.name → x ≡ y
  named_once place [] x y others h k same = absurd (Contains-nil x h)
  named_once place (d ∷ ds) x y others h k same =
      elim (Contains-cases (column_made c who table all place d) (From (place + 1) ds) x h) [
        | inl e ↦ elim (Contains-cases (column_made c who table all place d) (From (place + 1) ds) y k) [
          | inl f ↦ sym e ∙ f
          | inr behind ↦ absurd (never_called place d ds x y others.0 e behind same)
        ]
        | inr later ↦ elim (Contains-cases (column_made c who table all place d) (From (place + 1) ds) y k) [
          | inl f ↦ absurd (never_called place d ds y x others.0 f later (sym same))
          | inr behind ↦ named_once (place + 1) ds x y others.1 later behind same
        ]
      ]

  -- columns of one name are one, where those of definitions differ
  pub one_by_name : (place : ℕ) (ds : List ColumnDefinition) → AllPairs AreOtherColumns ds → (x y : Column) → Contains (From place ds) x → Contains (From place ds) y → x.name ≡ y.name → x ≡ y
  one_by_name place ds differ x y h k same = named_once place ds x y (with_later AreOtherColumns ds differ) h k same
