-- What goes with an object stands in these parts.
use Rattle.std.proofs.Common.{◌≡◌, inl, inr, ℕ, List, [], ◌∷◌, Some, Bor, refl, sym, ap, ◌∙◌, lit<}
use Rattle.sql_names.specs.declared.object.Object.{Object}
use Rattle.sql_tree.specs.declared.rights.Action.TheVariants.{Execute}
use Rattle.sql_tree.specs.declared.statement.DropKind.TheVariants as kind
use Rattle.cat_items.specs.declared.item.Item.TheVariants as item
use Rattle.cat_items.specs.declared.keys.ObjectKey.{ObjectKey}
use Rattle.cat_items.specs.declared.keys.PathKey.{PathKey}
use Rattle.cat_items.specs.declared.keys.PathKey.TheVariants as on
use Rattle.cat_items.specs.declared.ranges.ObjectKind.TheVariants as object
use Rattle.cat_items.specs.declared.ranges.Part.{Part}
use Rattle.cat_items.specs.declared.ranges.Part.TheVariants as part
use Rattle.cat_items.specs.Keys.{object_of}
use Rattle.cat_items.specs.Rights.{path_of}
use Rattle.drop_edit.specs.Parts.{HoldAllOf}

-- ---- assertions

module _ (o : Object) (schema : Bor (List ℕ)) (there : schema.now ≡ o.schema) where
  abbrev of_assertion : List Part
  of_assertion = part.Objects object.Assertion schema ∷ []

  pub assertion_held : HoldAllOf kind.Assertion o of_assertion
  assertion_held (item.Assertion a) allowed (inl is) = (part.Objects object.Assertion schema, (0, lit< tt, refl), (refl, ap Some (ap (λ (name : Object). name.schema) is ∙ sym there)))
  assertion_held (item.Held r) allowed (inr is) = absurd is.0
  assertion_held (item.Grantable r) allowed (inr is) = absurd is.0
  assertion_held x allowed (inl is) = absurd is
  assertion_held x allowed (inr is) = absurd is

-- ---- routines

module _ (o : Object) (key : ObjectKey) (same : object_of key ≡ o) where
  abbrev on_key : PathKey
  on_key = on.Object key

  abbrev of_routine : List Part
  of_routine = part.Routine key ∷ part.HeldOn Execute on_key ∷ part.GrantableOn Execute on_key ∷ []

  pub routine_held : HoldAllOf kind.Routine o of_routine
  routine_held (item.Routine r) allowed (inl is) = (part.Routine key, (0, lit< tt, refl), is ∙ sym same)
  routine_held (item.Held r) allowed (inr is) = (part.HeldOn Execute on_key, (1, lit< tt, refl), (is.0, is.1 ∙ sym (ap path_of same)))
  routine_held (item.Grantable r) allowed (inr is) = (part.GrantableOn Execute on_key, (2, lit< tt, refl), (is.0, is.1 ∙ sym (ap path_of same)))
  routine_held x allowed (inl is) = absurd is
  routine_held x allowed (inr is) = absurd is
