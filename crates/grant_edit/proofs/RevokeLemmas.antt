-- Which rights are identified.
use Rattle.std.proofs.Common.{◌≡◌, ◌⊎◌, ◌↔◌, inl, inr, ℕ, List, [], ◌∷◌, ◌++◌, Option, Some, None, take, sym, subst, refl, ◌∙◌}
use Rattle.std.specs.List.{Contains}
use Rattle.std.specs.declared.cmp.Ordering.TheVariants.{Less}
use Rattle.finite_chains.specs.StrictOrder.{IsRising}
use Rattle.finite_chains.proofs.Members.{Contains-nil, Contains-head}
use Rattle.sql_names.specs.declared.object.Object.{Object}
use Rattle.cat_items.specs.declared.need.Need.{Need}
use Rattle.cat_items.specs.declared.item.Item.{Item}
use Rattle.cat_items.specs.Catalogues.{IsInOrder}
use Rattle.cat_items.specs.Needs.{object_need}
use Rattle.cat_items.specs.Order.{item_cmp}
use Rattle.cat_items.specs.Rights.{path_of}
use Rattle.cat_items.proofs.CatalogueLemmas.{rising, in_order}
use Rattle.cat_items.proofs.Rising.{rising_append, rising_left, rising_across}
use Rattle.grant_edit.specs.Revokes.{Covers, CoversColumn, IsRevoked}
use Rattle.grant_edit.proofs.Lists.{contains_one, contains_push}
use Rattle.grant_edit.proofs.NamedLemmas.{same_need}

-- ---- what is revoked

module _ (object : Object) (named : List Need) (on : (n : Need) → Contains named n → n.on ≡ path_of object) where
  -- a privilege that is named covers what is revoked
  pub covered : (need : Need) → IsRevoked object named need → (n : Need) × Contains named n × Covers n need
  covered need (inl h) = (need, h, (refl, refl, itself need.column))
    where
      itself : (column : Option (List ℕ)) → CoversColumn column column
      itself None = tt
      itself (Some name) = refl
  covered need (inr h) = (object_need need.action object, h.1, (refl, sym h.0, tt))

  -- and what it covers is revoked
  pub revoked : (n need : Need) → Contains named n → Covers n need → IsRevoked object named need
  revoked n need h covers = by n.column refl covers.2
    where
      by : (column : Option (List ℕ)) → n.column ≡ column → CoversColumn column need.column → IsRevoked object named need
      by None none fits =
          let same : n ≡ object_need need.action object = same_need n (object_need need.action object) covers.0 (on n h) none in
          inr (sym covers.1 ∙ on n h, subst (Contains named) same h)
      by (Some name) some is = inl (subst (Contains named) (same_need n need covers.0 covers.1 (some ∙ sym is)) h)
