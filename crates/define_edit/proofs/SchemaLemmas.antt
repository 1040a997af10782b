-- A schema of a new name is added soundly.
use Rattle.std.proofs.Common.{◌≡◌, ◌⊎◌, ℕ, List, [], ◌∷◌, get_or, ap, sym, subst, refl, ◌∙◌, inl, inr, arith}
use Rattle.std.specs.List.{Contains}
use Rattle.std.specs.Ordering.{ordering_reverse}
use Rattle.std.specs.declared.cmp.Ordering.TheVariants.{Equal}
use Rattle.std.proofs.lemmas.List.{get_or_default}
use Rattle.finite_chains.proofs.Members.{Contains-nil, Contains-cases}
use Rattle.sql_names.specs.declared.object.Object.{Object}
use Rattle.sql_tree.specs.declared.statement.SchemaNameClause.{SchemaNameClause}
use Rattle.cat_items.specs.declared.edit.Edit.{Edit}
use Rattle.cat_items.specs.declared.edit.Who.{Who}
use Rattle.cat_items.specs.declared.edit.Refusal.TheVariants.{NameExists}
use Rattle.cat_items.specs.declared.item.Item.{Item}
use Rattle.cat_items.specs.declared.item.Item.TheVariants as item
use Rattle.cat_items.specs.declared.item.Schema.{Schema}
use Rattle.cat_items.specs.Catalogues.{IsInOrder, HasKeyAt, schema_key}
use Rattle.cat_items.specs.Fit.{HasNewKey}
use Rattle.cat_items.specs.Good.{IsGood}
use Rattle.cat_items.specs.Order.{item_cmp}
use Rattle.cat_items.specs.Reach.{Has}
use Rattle.cat_items.specs.Rights.{IsSchema}
use Rattle.cat_items.specs.Shape.{HasDerivedFields, IsColumnOf}
use Rattle.cat_items.proofs.KeyLemmas.{same_key, schema_from_key}
use Rattle.cat_items.proofs.OrderLemmas.{item_cmp-total}
use Rattle.edit_laws.specs.Additions.{HasNoShape}
use Rattle.edit_laws.specs.Kinds.{adding}
use Rattle.edit_laws.proofs.Fits.{fit_of_adding}
use Rattle.edit_laws.proofs.Shapes.{shape_of_plain, keeps_without_columns}
use Rattle.edit_laws.proofs.GoodCatalogues.{good_order}
use Rattle.edit_rules.specs.First.{First, Passes}
use Rattle.edit_rules.specs.Names.{unknown_authorization}
use Rattle.edit_laws.specs.Sound.{IsSound}
use Rattle.edit_rules.proofs.FirstLaws.{passes_rest, passes_that}
use Rattle.define_edit.specs.CreatedSchemas.{adding_schema, create_schema_edit, create_schema_refusals, not_owner_to_be, reserved_schema, schema_exists, schema_name, schema_owner, schema_refusals}

-- what has the key of a schema is a schema of its name
named_by_key : (s : Schema) (y : Item) → item_cmp y (item.Schema s) ≡ Equal → IsSchema s.name y
named_by_key s y e =
    let keys : item_cmp (item.Schema s) (schema_key s.name) ≡ Equal = same_key (item.Schema s) in
    let turned : item_cmp (item.Schema s) y ≡ Equal = item_cmp-total.antisymm (item.Schema s) y ∙ ap ordering_reverse e in
    let there : item_cmp (schema_key s.name) y ≡ Equal = sym (item_cmp-total.congr (item.Schema s) (schema_key s.name) y keys) ∙ turned in
    let back : item_cmp y (schema_key s.name) ≡ Equal = item_cmp-total.antisymm y (schema_key s.name) ∙ ap ordering_reverse there in
    let found = schema_from_key y s.name back in
    subst (IsSchema s.name) (sym found.1) refl

module _ (c : List Item) (s : Schema) (good : IsGood c) (new : Has c (IsSchema s.name) → ⊥) where
  abbrev added : List Item
  added = item.Schema s ∷ []

  one_added : (x : Item) → Contains added x → item.Schema s ≡ x
  one_added x h = elim (Contains-cases (item.Schema s) [] x h) [ inl e ↦ e | inr none ↦ absurd (Contains-nil x none) ]

  added_order : IsInOrder added
  added_order i j d low high = absurd (omega (arith, low, high))

  -- no item has its key
  key_is_new : (y : Item) → Contains c y → item_cmp y (item.Schema s) ≡ Equal → ⊥
  key_is_new y m e = new (y, m, named_by_key s y e)

  own : (x y : Item) → Contains added x → Contains c y → item_cmp x y ≡ Equal → x ≡ y
  own x y h m e =
      let mine : item_cmp (item.Schema s) y ≡ Equal = subst (λ z. item_cmp z y ≡ Equal) (sym (one_added x h)) e in
      absurd (key_is_new y m (item_cmp-total.antisymm y (item.Schema s) ∙ ap ordering_reverse mine))

  new_key : (k : ℕ) → HasKeyAt c k (item.Schema s) → ⊥
  new_key k at = let y : Item = get_or c k (item.Schema s) in key_is_new y (k, at.0, get_or_default c k y (item.Schema s) at.0) (at.1 (item.Schema s))

  plain : (x : Item) → Contains added x → HasNoShape x
  plain x h = subst HasNoShape (one_added x h) tt

  -- the catalogue with the schema is of a proper shape
  pub sound_schema : IsSound c (adding_schema s)
  sound_schema =
      let fit = fit_of_adding c added (good_order c good) added_order own (λ x h. subst (HasNewKey c) (one_added x h) new_key) (λ x h. subst HasDerivedFields (one_added x h) tt) in record {
        edited = fit.0;
        fit = fit.1;
        shape = shape_of_plain c (adding added) fit.0 good.shape fit.1.is_edited plain (keeps_without_columns c (adding added) nothing);
      }
    where
      nothing : (x : Item) → Contains [] x ⊎ Contains [] x → (t : Object) → ¬ (IsColumnOf t x)
      nothing x (inl h) t = absurd (Contains-nil x h)
      nothing x (inr h) t = absurd (Contains-nil x h)

-- where the test of the name passes there is no such schema
pub no_schema : (c : List Item) (name : List ℕ) → Passes (schema_exists c name) → Has c (IsSchema name) → ⊥
no_schema c name passed has = passed (NameExists (name ∷ [])) (has, refl)

-- all tests of the parts of the statement pass, and the schema is of these parts
pub created_schema : (c : List Item) (who : Who) (clause : SchemaNameClause) (name owner own_name own_owner : List ℕ) (edit : Edit) → name ≡ schema_name clause → owner ≡ schema_owner clause who
    → own_name ≡ name → own_owner ≡ owner → edit ≡ adding_schema (record { name = own_name; owner = own_owner }) → Passes (First (schema_refusals c who name owner))
    → Passes (First (create_schema_refusals c who clause)) × (edit ≡ create_schema_edit who clause)
created_schema c who clause name owner own_name own_owner edit named owned n o is passed = (
  subst (λ x. Passes (First (schema_refusals c who (schema_name clause) x))) owned (subst (λ x. Passes (First (schema_refusals c who x owner))) named passed),
  is ∙ ap (λ x. adding_schema (record { name = x; owner = own_owner })) (n ∙ named) ∙ ap (λ x. adding_schema (record { name = schema_name clause; owner = x })) (o ∙ owned),
)

pub sound_creation : (c : List Item) (who : Who) (name owner own_name own_owner : List ℕ) (edit : Edit) → IsGood c → own_name ≡ name → edit ≡ adding_schema (record { name = own_name; owner = own_owner })
    → Passes (First (schema_refusals c who name owner)) → IsSound c edit
sound_creation c who name owner own_name own_owner edit good same is passed =
    let s : Schema = record { name = own_name; owner = own_owner } in
    let taken : Passes (schema_exists c name) = passes_that (schema_exists c name) (passes_rest (not_owner_to_be c who name owner) (schema_exists c name ∷ [])
    (passes_rest (unknown_authorization c owner) (not_owner_to_be c who name owner ∷ schema_exists c name ∷ [])
    (passes_rest (reserved_schema name) (unknown_authorization c owner ∷ not_owner_to_be c who name owner ∷ schema_exists c name ∷ []) passed))) in
    subst (IsSound c) (sym is) (sound_schema c s good (λ has. no_schema c name taken (subst (λ n. Has c (IsSchema n)) same has)))
