-- The parts in which the rights on an object stand.
use Rattle.std.proofs.Common.{◌≡◌, ◌⊎◌, inl, inr, List, [], ◌∷◌, refl, sym, ap, ◌∙◌, lit<}
use Rattle.std.specs.List.{Contains}
use Rattle.sql_names.specs.declared.object.Object.{Object}
use Rattle.sql_tree.specs.declared.rights.Action.{Action}
use Rattle.sql_tree.specs.declared.rights.Action.TheVariants.{Select, Insert, Update, Delete, References, Usage, Execute, Admin}
use Rattle.cat_items.specs.declared.item.Item.{Item}
use Rattle.cat_items.specs.declared.item.Item.TheVariants as item
use Rattle.cat_items.specs.declared.item.Right.{Right}
use Rattle.cat_items.specs.declared.need.Need.{Need}
use Rattle.cat_items.specs.declared.keys.ObjectKey.{ObjectKey}
use Rattle.cat_items.specs.declared.keys.PathKey.{PathKey}
use Rattle.cat_items.specs.declared.keys.PathKey.TheVariants as on
use Rattle.cat_items.specs.declared.ranges.Part.{Part}
use Rattle.cat_items.specs.declared.ranges.Part.TheVariants.{HeldOn, GrantableOn}
use Rattle.cat_items.specs.Keys.{object_of}
use Rattle.cat_items.specs.Rights.{path_of}
use Rattle.chosen_parts.specs.Parts.{LiesIn}
use Rattle.grant_edit.specs.Revokes.{IsIdentifiedRight, IsRevoked, Revoked}
use Rattle.grant_edit.specs.RightParts.{HoldRightsOn, IsRightAt}

module _ (o : Object) (key : ObjectKey) (same : object_of key ≡ o) where
  abbrev of_key : PathKey
  of_key = on.Object key

  abbrev of_object : List Part
  of_object =
      HeldOn Select of_key ∷ HeldOn Insert of_key ∷ HeldOn Update of_key ∷ HeldOn Delete of_key ∷ HeldOn References of_key ∷ HeldOn Usage of_key ∷ HeldOn Execute of_key ∷ HeldOn Admin of_key
      ∷ GrantableOn Select of_key ∷ GrantableOn Insert of_key ∷ GrantableOn Update of_key ∷ GrantableOn Delete of_key ∷ GrantableOn References of_key ∷ GrantableOn Usage of_key ∷ GrantableOn Execute of_key ∷ GrantableOn Admin of_key
      ∷ []

  held : (r : Right) (by : Action) → r.need.action ≡ by → r.need.on ≡ path_of (object_of key) → LiesIn of_object (item.Held r)
  held r Select is at = (HeldOn Select of_key, (0, lit< tt, refl), (is, at))
  held r Insert is at = (HeldOn Insert of_key, (1, lit< tt, refl), (is, at))
  held r Update is at = (HeldOn Update of_key, (2, lit< tt, refl), (is, at))
  held r Delete is at = (HeldOn Delete of_key, (3, lit< tt, refl), (is, at))
  held r References is at = (HeldOn References of_key, (4, lit< tt, refl), (is, at))
  held r Usage is at = (HeldOn Usage of_key, (5, lit< tt, refl), (is, at))
  held r Execute is at = (HeldOn Execute of_key, (6, lit< tt, refl), (is, at))
  held r Admin is at = (HeldOn Admin of_key, (7, lit< tt, refl), (is, at))

  grantable : (r : Right) (by : Action) → r.need.action ≡ by → r.need.on ≡ path_of (object_of key) → LiesIn of_object (item.Grantable r)
  grantable r Select is at = (GrantableOn Select of_key, (8, lit< tt, refl), (is, at))
  grantable r Insert is at = (GrantableOn Insert of_key, (9, lit< tt, refl), (is, at))
  grantable r Update is at = (GrantableOn Update of_key, (10, lit< tt, refl), (is, at))
  grantable r Delete is at = (GrantableOn Delete of_key, (11, lit< tt, refl), (is, at))
  grantable r References is at = (GrantableOn References of_key, (12, lit< tt, refl), (is, at))
  grantable r Usage is at = (GrantableOn Usage of_key, (13, lit< tt, refl), (is, at))
  grantable r Execute is at = (GrantableOn Execute of_key, (14, lit< tt, refl), (is, at))
  grantable r Admin is at = (GrantableOn Admin of_key, (15, lit< tt, refl), (is, at))

  pub rights_held : HoldRightsOn o of_object
  rights_held (item.Held r) is = held r r.need.action refl (is ∙ sym (ap path_of same))
  rights_held (item.Grantable r) is = grantable r r.need.action refl (is ∙ sym (ap path_of same))
  rights_held x is = absurd is

-- what is identified is a right on the object
module _ (k : Revoked) (on_object : (n : Need) → Contains k.named n → n.on ≡ path_of k.object) where
  revoked_at : (need : Need) → IsRevoked k.object k.named need → need.on ≡ path_of k.object
  revoked_at need (inl h) = on_object need h
  revoked_at need (inr h) = h.0

  pub identified_at : (x : Item) → IsIdentifiedRight k x → IsRightAt (path_of k.object) x
  identified_at (item.Held r) is = revoked_at r.need is.1.0
  identified_at (item.Grantable r) is = revoked_at r.need is.0
  identified_at x is = absurd is
