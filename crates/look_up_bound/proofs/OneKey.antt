-- A list in order has one item of a key: one view of a name, and one schema.
use Rattle.std.proofs.Common.{◌≡◌, ◌⊎◌, inl, inr, List, [], ◌∷◌, ap, sym, subst, ◌∙◌}
use Rattle.std.specs.Prelude.{ℕ}
use Rattle.std.specs.List.{Contains}
use Rattle.std.specs.declared.cmp.Ordering.TheVariants.{Less, Equal}
use Rattle.finite_chains.specs.StrictOrder.{IsRising}
use Rattle.finite_chains.proofs.Members.{Contains-nil, Contains-cases}
use Rattle.sql_names.specs.declared.object.Object.{Object}
use Rattle.cat_items.specs.declared.item.Schema.{Schema}
use Rattle.cat_items.specs.declared.item.View.{View}
use Rattle.cat_items.specs.declared.item.Item.{Item}
use Rattle.cat_items.specs.declared.item.Item.TheVariants as item
use Rattle.cat_items.specs.Catalogues.{IsInOrder}
use Rattle.cat_items.specs.Order.{item_cmp}
use Rattle.cat_items.specs.Rights.{path_of}
use Rattle.cat_items.proofs.CatalogueLemmas.{rising}
use Rattle.cat_items.proofs.KeyLemmas.{same_key}

abbrev HaveOneKey : Item → Item → Type 0
HaveOneKey a b = (item_cmp a b ≡ Equal) × (item_cmp b a ≡ Equal)

one_item : (c : List Item) → IsRising item_cmp c → (a b : Item) → Contains c a → Contains c b → HaveOneKey a b → a ≡ b
one_item [] rise a b ha hb same = absurd (Contains-nil a ha)
one_item (x ∷ xs) rise a b ha hb same = by (λ p q. one_item xs rise.1 a b p q same) (Contains-cases x xs a ha) (Contains-cases x xs b hb)
  where
    by : (Contains xs a → Contains xs b → a ≡ b) → (x ≡ a) ⊎ Contains xs a → (x ≡ b) ⊎ Contains xs b → a ≡ b
    by later (inl p) (inl q) = sym p ∙ q
    by later (inl p) (inr h) = let less = subst (λ z. item_cmp z b ≡ Less) p (rise.0 b h) in absurd (cc (less, same.0))
    by later (inr h) (inl q) = let less = subst (λ z. item_cmp z a ≡ Less) q (rise.0 a h) in absurd (cc (less, same.1))
    by later (inr p) (inr q) = later p q

same_object : (a b : Object) → path_of a ≡ path_of b → a ≡ b
same_object a b e =
    let schemas : a.schema ≡ b.schema = cc in
    let names : a.name ≡ b.name = cc in
    λ i. record { schema = schemas i; name = names i }

view_key : (v w : View) → path_of v.view ≡ path_of w.view → item_cmp (item.View v) (item.View w) ≡ Equal
view_key v w e = ap (λ (o : Object). item_cmp (item.View v) (item.View (record w { view = o }))) (sym (same_object v.view w.view e)) ∙ same_key (item.View v)

schema_key : (y z : Schema) → y.name ≡ z.name → item_cmp (item.Schema y) (item.Schema z) ≡ Equal
schema_key y z e = ap (λ (n : List ℕ). item_cmp (item.Schema y) (item.Schema (record z { name = n }))) (sym e) ∙ same_key (item.Schema y)

pub one_view : (c : List Item) → IsInOrder c → (v w : View) → Contains c (item.View v) → Contains c (item.View w) → path_of v.view ≡ path_of w.view → v ≡ w
one_view c order v w hv hw e = let same = one_item c (rising c order) (item.View v) (item.View w) hv hw (view_key v w e, view_key w v (sym e)) in cc

pub one_schema : (c : List Item) → IsInOrder c → (y z : Schema) → Contains c (item.Schema y) → Contains c (item.Schema z) → y.name ≡ z.name → y ≡ z
one_schema c order y z hy hz e = let same = one_item c (rising c order) (item.Schema y) (item.Schema z) hy hz (schema_key y z e, schema_key z y (sym e)) in cc
