-- What is of a table or a view stands in these parts.
use Rattle.std.proofs.Common.{◌≡◌, ℕ, List, [], ◌∷◌, Some, Bor, refl, sym, ap, ◌∙◌, lit<}
use Rattle.sql_names.specs.declared.object.Object.{Object}
use Rattle.sql_tree.specs.declared.rights.Action.{Action}
use Rattle.sql_tree.specs.declared.rights.Action.TheVariants.{Select, Insert, Update, Delete, References}
use Rattle.cat_items.specs.declared.item.Item.{Item}
use Rattle.cat_items.specs.declared.item.Item.TheVariants as item
use Rattle.cat_items.specs.declared.item.Right.{Right}
use Rattle.cat_items.specs.declared.keys.ObjectKey.{ObjectKey}
use Rattle.cat_items.specs.declared.keys.PathKey.{PathKey}
use Rattle.cat_items.specs.declared.keys.PathKey.TheVariants as on
use Rattle.cat_items.specs.declared.ranges.ObjectKind.TheVariants as object
use Rattle.cat_items.specs.declared.ranges.Part.{Part}
use Rattle.cat_items.specs.declared.ranges.Part.TheVariants as part
use Rattle.cat_items.specs.Keys.{object_of}
use Rattle.cat_items.specs.Rights.{path_of}
use Rattle.chosen_parts.specs.Parts.{LiesIn}
use Rattle.chosen_parts.specs.Tables.{HoldTable, IsTableAction}

module _ (o : Object) (key : ObjectKey) (schema : Bor (List ℕ)) (same : object_of key ≡ o) (there : schema.now ≡ o.schema) where
  abbrev of_key : PathKey
  of_key = on.Object key

  abbrev of_table : List Part
  of_table =
      part.Table key ∷ part.View key ∷ part.Columns key
      ∷ part.Objects object.Key schema ∷ part.Objects object.Foreign schema ∷ part.Objects object.Check schema
      ∷ part.HeldOn Select of_key ∷ part.HeldOn Insert of_key ∷ part.HeldOn Update of_key ∷ part.HeldOn Delete of_key ∷ part.HeldOn References of_key
      ∷ part.GrantableOn Select of_key ∷ part.GrantableOn Insert of_key ∷ part.GrantableOn Update of_key ∷ part.GrantableOn Delete of_key ∷ part.GrantableOn References of_key
      ∷ []

  held : (r : Right) (by : Action) → r.need.action ≡ by → IsTableAction by → r.need.on ≡ path_of (object_of key) → LiesIn of_table (item.Held r)
  held r Select is action at = (part.HeldOn Select of_key, (6, lit< tt, refl), (is, at))
  held r Insert is action at = (part.HeldOn Insert of_key, (7, lit< tt, refl), (is, at))
  held r Update is action at = (part.HeldOn Update of_key, (8, lit< tt, refl), (is, at))
  held r Delete is action at = (part.HeldOn Delete of_key, (9, lit< tt, refl), (is, at))
  held r References is action at = (part.HeldOn References of_key, (10, lit< tt, refl), (is, at))
  held r by is action at = absurd action

  grantable : (r : Right) (by : Action) → r.need.action ≡ by → IsTableAction by → r.need.on ≡ path_of (object_of key) → LiesIn of_table (item.Grantable r)
  grantable r Select is action at = (part.GrantableOn Select of_key, (11, lit< tt, refl), (is, at))
  grantable r Insert is action at = (part.GrantableOn Insert of_key, (12, lit< tt, refl), (is, at))
  grantable r Update is action at = (part.GrantableOn Update of_key, (13, lit< tt, refl), (is, at))
  grantable r Delete is action at = (part.GrantableOn Delete of_key, (14, lit< tt, refl), (is, at))
  grantable r References is action at = (part.GrantableOn References of_key, (15, lit< tt, refl), (is, at))
  grantable r by is action at = absurd action

  abbrev path_is : path_of (object_of key) ≡ path_of o
  path_is = ap path_of same

  -- the schema of a constraint is that of its table
  in_schema : (name table : Object) → name.schema ≡ table.schema → table ≡ o → Some name.schema ≡ Some schema.now
  in_schema name table allowed is = ap Some (allowed ∙ ap (λ (t : Object). t.schema) is ∙ sym there)

  pub table_held : HoldTable o of_table
  table_held (item.Table t) allowed is = (part.Table key, (0, lit< tt, refl), is ∙ sym same)
  table_held (item.View v) allowed is = (part.View key, (1, lit< tt, refl), is ∙ sym same)
  table_held (item.Column x) allowed is = (part.Columns key, (2, lit< tt, refl), is ∙ sym same)
  table_held (item.Key k) allowed is = (part.Objects object.Key schema, (3, lit< tt, refl), (refl, in_schema k.name k.table allowed is))
  table_held (item.Foreign f) allowed is = (part.Objects object.Foreign schema, (4, lit< tt, refl), (refl, in_schema f.name f.table allowed is))
  table_held (item.Check x) allowed is = (part.Objects object.Check schema, (5, lit< tt, refl), (refl, in_schema x.name x.table allowed is))
  table_held (item.Held r) allowed is = held r r.need.action refl is.0 (is.1 ∙ sym path_is)
  table_held (item.Grantable r) allowed is = grantable r r.need.action refl is.0 (is.1 ∙ sym path_is)
  table_held x allowed is = absurd is
