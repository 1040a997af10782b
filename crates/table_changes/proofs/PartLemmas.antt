-- What is dropped stands in these parts.
use Rattle.std.proofs.Common.{◌≡◌, List, [], ◌∷◌, Some, Bor, refl, sym, ap, ◌∙◌, lit<, ℕ}
use Rattle.sql_names.specs.declared.object.Object.{Object}
use Rattle.cat_items.specs.declared.item.Item.{Item}
use Rattle.cat_items.specs.declared.item.Item.TheVariants as item
use Rattle.cat_items.specs.declared.keys.ObjectKey.{ObjectKey}
use Rattle.cat_items.specs.declared.ranges.ObjectKind.TheVariants as object
use Rattle.cat_items.specs.declared.ranges.Part.{Part}
use Rattle.cat_items.specs.declared.ranges.Part.TheVariants as part
use Rattle.cat_items.specs.Keys.{object_of}
use Rattle.chosen_parts.specs.Parts.{LieIn}
use Rattle.table_changes.specs.DroppedColumns.{IsOtherColumn}
use Rattle.table_changes.specs.DroppedConstraints.{HoldConstraint, in_schema_of}

-- ---- columns

pub others_lie : (c : List Item) (table : Object) (name : List ℕ) (key : ObjectKey) → object_of key ≡ table → LieIn c (part.Columns key ∷ []) (IsOtherColumn table name)
others_lie c table name key same (item.Column x) there is = (part.Columns key, (0, lit< tt, refl), is.0 ∙ sym same)
others_lie c table name key same x there is = absurd is

-- ---- constraints

module _ (table : Object) (name : List ℕ) (schema : Bor (List ℕ)) (there : schema.now ≡ table.schema) where
  abbrev of_schema : List Part
  of_schema = part.Objects object.Key schema ∷ part.Objects object.Foreign schema ∷ part.Objects object.Check schema ∷ []

  in_schema : (own : Object) → own ≡ in_schema_of table name → Some own.schema ≡ Some schema.now
  in_schema own is = ap Some (ap (λ (o : Object). o.schema) is ∙ sym there)

  pub constraint_held : HoldConstraint table name of_schema
  constraint_held (item.Key k) is = (part.Objects object.Key schema, (0, lit< tt, refl), (refl, in_schema k.name is.1))
  constraint_held (item.Foreign f) is = (part.Objects object.Foreign schema, (1, lit< tt, refl), (refl, in_schema f.name is.1))
  constraint_held (item.Check x) is = (part.Objects object.Check schema, (2, lit< tt, refl), (refl, in_schema x.name is.1))
  constraint_held x is = absurd is
