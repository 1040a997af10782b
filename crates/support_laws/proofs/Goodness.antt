-- What survives of a list of a proper shape and of the rights that the system could grant is good.
use Rattle.std.proofs.Common.{◌≡◌, ◌⊎◌, inl, inr, Bool, false, ◌||◌, List, [], ◌∷◌, Option, Some, None, ap, sym, subst, ◌∙◌}
use Rattle.std.specs.Prelude.{ℕ, Decides}
use Rattle.std.specs.List.{Contains, filter}
use Rattle.std.specs.Ordering.{is_eq}
use Rattle.std.specs.Cmp.{Equal-is}
use Rattle.std.specs.declared.cmp.Ordering.TheVariants.{Less, Equal}
use Rattle.std.proofs.lemmas.Bool.Decides.{Decides-or}
use Rattle.finite_chains.specs.Chains.{IsWithin, IsChain, Survives, HasSurvivors, IsMonotone, Agree}
use Rattle.finite_chains.specs.StrictOrder.{IsRising}
use Rattle.finite_chains.proofs.Chains.{Survives-step, IsChain-within, HasSurvivors-part}
use Rattle.finite_chains.proofs.Members.{Contains-nil, Contains-tail, Contains-cases, Contains-filter, filter_passes_one, All-from_contains}
use Rattle.finite_chains.proofs.StrictOrders.{IsRising-filter}
use Rattle.sql_names.specs.declared.object.Object.{Object}
use Rattle.cat_items.specs.declared.need.Need.{Need}
use Rattle.cat_items.specs.declared.item.View.{View}
use Rattle.cat_items.specs.declared.item.Right.{Right}
use Rattle.cat_items.specs.declared.item.Item.{Item}
use Rattle.cat_items.specs.declared.item.Item.TheVariants as item
use Rattle.cat_items.specs.Order.{item_cmp}
use Rattle.cat_items.specs.Reach.{Has, GrantsRole, Leads}
use Rattle.cat_items.specs.Rights.{path_of, IsSchema, IsTable, IsColumn, HasColumn, MeetsAll}
use Rattle.cat_items.specs.Supported.{Keeps, RestsOnDomain, Supported}
use Rattle.cat_items.specs.Survivors.{MayBeSystemRow, MayBeSystemSchema, MayBeSystemRight, IsSystemRight, IsWithSystem, AreSurvivors}
use Rattle.cat_items.specs.Fit.{IsRight}
use Rattle.cat_items.specs.Shape.{HasShape, NameSet, name_of, HasAllowedName, HasDerivedFields, HasProperLists, IsWellFormed, IsColumnOf}
use Rattle.cat_items.specs.Good.{IsGood}
use Rattle.cat_items.proofs.CatalogueLemmas.{rising, in_order}
use Rattle.cat_items.proofs.KeyLemmas.{same_key}
use Rattle.cat_items.proofs.OrderLemmas.{item_cmp-total}
use Rattle.support_laws.proofs.Monotone.{has_some, rests_on_domain_more, supported_monotone}
use Rattle.support_laws.proofs.Decisions.{Decided, decided_has, system_right}

-- ---- chains

-- the items of a chain support each of them
chain_supports : (sup : List Item → Item → Type 0) → IsMonotone sup → (c chain : List Item) → IsChain sup c chain → (x : Item) → Contains chain x → sup chain x
chain_supports sup mono c [] p x h = absurd (Contains-nil x h)
chain_supports sup mono c (y ∷ chain) p x h = by (Contains-cases y chain x h) (λ later. chain_supports sup mono c chain p.2 x later)
  where
    longer : IsWithin chain (y ∷ chain)
    longer z is = Contains-tail y chain z is

    by : (y ≡ x) ⊎ Contains chain x → (Contains chain x → sup chain x) → sup (y ∷ chain) x
    by (inl e) more = mono.more chain (y ∷ chain) x longer (subst (sup chain) e p.1)
    by (inr later) more = mono.more chain (y ∷ chain) x longer (more later)

-- survivors support each of them
survivors_support : (sup : List Item → Item → Type 0) → IsMonotone sup → (c f : List Item) → HasSurvivors sup c f → (x : Item) → Contains f x → sup f x
survivors_support sup mono c f has x is =
    let s = (has x).0 is in
    mono.more s.0 f x (λ y h. (has y).1 (s.0, s.1, h)) (chain_supports sup mono c s.0 s.1 x s.2)

-- ---- order

-- items with one key are one, in a list in order
one_by_key : (xs : List Item) → IsRising item_cmp xs → (x y : Item) → Contains xs x → Contains xs y → item_cmp x y ≡ Equal → x ≡ y
one_by_key [] r x y p q e = absurd (Contains-nil x p)
one_by_key (z ∷ xs) r x y p q e = by (Contains-cases z xs x p) (Contains-cases z xs y q) (λ h k. one_by_key xs r.1 x y h k e)
  where
    by : (z ≡ x) ⊎ Contains xs x → (z ≡ y) ⊎ Contains xs y → (Contains xs x → Contains xs y → x ≡ y) → x ≡ y
    by (inl f) (inl g) more = sym f ∙ g
    by (inl f) (inr h) more = let less : item_cmp x y ≡ Less = subst (λ w. item_cmp w y ≡ Less) f (r.0 y h) in cc
    by (inr h) (inl g) more = let less : item_cmp y x ≡ Less = subst (λ w. item_cmp w x ≡ Less) g (r.0 x h) in let back = item_cmp-total.antisymm x y in cc
    by (inr h) (inr k) more = more h k

-- ---- rights

system_is_right : (c : List Item) (x : Item) → IsSystemRight c x → IsRight x
system_is_right c (item.Held r) h = tt
system_is_right c (item.Grantable r) h = tt
system_is_right c _ h = absurd h

right_or_not : (x : Item) → IsRight x ⊎ (¬ (IsRight x))
right_or_not (item.Held r) = inl tt
right_or_not (item.Grantable r) = inl tt
right_or_not _ = inr (λ h. h)

named_no_right : (x : Item) (name : NameSet × List (List ℕ)) → name_of x ≡ Some name → ¬ (IsRight x)
named_no_right (item.Held r) name e h = cc
named_no_right (item.Grantable r) name e h = cc
named_no_right _ name e h = h

right_is_allowed : (x : Item) → IsRight x → HasAllowedName x
right_is_allowed (item.Held r) h = tt
right_is_allowed (item.Grantable r) h = tt
right_is_allowed _ h = absurd h

right_is_derived : (x : Item) → IsRight x → HasDerivedFields x
right_is_derived (item.Held r) h = tt
right_is_derived (item.Grantable r) h = tt
right_is_derived _ h = absurd h

right_is_proper : (x : Item) → IsRight x → HasProperLists x
right_is_proper (item.Held r) h = tt
right_is_proper (item.Grantable r) h = tt
right_is_proper _ h = absurd h

right_is_well_formed : (x : Item) → IsRight x → IsWellFormed x
right_is_well_formed (item.Held r) h = tt
right_is_well_formed (item.Grantable r) h = tt
right_is_well_formed _ h = absurd h

grants_no_right : (role from : List ℕ) (y : Item) → GrantsRole role from y → ¬ (IsRight y)
grants_no_right role from (item.Held r) h = absurd h
grants_no_right role from (item.Grantable r) h = absurd h
grants_no_right role from _ h = λ z. z

column_no_right : (path : List (List ℕ)) (name : List ℕ) (y : Item) → IsColumn path name y → ¬ (IsRight y)
column_no_right path name (item.Held r) h = absurd h
column_no_right path name (item.Grantable r) h = absurd h
column_no_right path name _ h = λ z. z

row_no_right : (schema : List ℕ) (n : Need) (y : Item) → MayBeSystemRow schema n y → ¬ (IsRight y)
row_no_right schema n (item.Held r) h = absurd h
row_no_right schema n (item.Grantable r) h = absurd h
row_no_right schema n _ h = λ z. z

schema_no_right : (c : List Item) (r : Right) (y : Item) → MayBeSystemSchema c r y → ¬ (IsRight y)
schema_no_right c r (item.Held s) h = absurd h
schema_no_right c r (item.Grantable s) h = absurd h
schema_no_right c r _ h = λ z. z

-- ---- the list of which a table's columns are

-- support goes on where that list is longer
supported_in : (a b s : List Item) → IsWithin a b → (x : Item) → Supported a s x → Supported b s x
supported_in a b s within (item.Table t) is = (is.0, has_some a b (Keeps s t) (Keeps s t) within (λ y h. h) is.1)
supported_in a b s within _ is = is

met_in_schema : (s : List Item) (schema : List ℕ) (needs : List Need) (y : Item) → MeetsAll false s schema needs y → IsSchema schema y
met_in_schema s schema needs (item.Schema x) h = h.0
met_in_schema s schema needs _ h = absurd h

-- a list with the rights that the system could grant for its objects, and what survives of them
module _ (e all new : List Item) (w : IsWithSystem e all) (survive : AreSurvivors all new) (shape : HasShape e) where
  stands : (x : Item) → Contains new x → Survives (Supported all) all x
  stands x is = (survive.members x).0 is

  survives_too : (x : Item) → Contains all x → Supported all new x → Contains new x
  survives_too x is holds = (survive.members x).1 (Survives-step (Supported all) (supported_monotone all) all new x (All-from_contains (Survives (Supported all) all) new stands) is holds)

  supported : (x : Item) → Contains new x → Supported all new x
  supported x is = survivors_support (Supported all) (supported_monotone all) all new survive.members x is

  in_all : IsWithin new all
  in_all x is = let s = stands x is in IsChain-within (Supported all) all s.0 s.1 x s.2

  from_all : (x : Item) → (¬ (IsRight x)) → Contains e x ⊎ IsSystemRight e x → Contains e x
  from_all x apart (inl h) = h
  from_all x apart (inr h) = absurd (apart (system_is_right e x h))

  in_edited : (x : Item) → (¬ (IsRight x)) → Contains new x → Contains e x
  in_edited x apart is = from_all x apart ((w.members x).0 (in_all x is))

  has_in_edited : (P : Item → Type 0) → ((y : Item) → P y → ¬ (IsRight y)) → Has new P → Has e P
  has_in_edited P apart h = (h.0, in_edited h.0 (apart h.0 h.2) h.1, h.2)

  leads_in_edited : (from : List ℕ) (roles : List (List ℕ)) (to : List ℕ) → Leads new from roles to → Leads e from roles to
  leads_in_edited from [] to is = is
  leads_in_edited from (role ∷ roles) to is = (has_in_edited (GrantsRole role from) (grants_no_right role from) is.0, leads_in_edited role roles to is.1)

  -- what rights have, and the items of the list
  each : (P : Item → Type 0) → ((x : Item) → IsRight x → P x) → ((x : Item) → Contains e x → P x) → (x : Item) → Contains new x → P x
  each P right here x is = by (right_or_not x)
    where
      by : IsRight x ⊎ (¬ (IsRight x)) → P x
      by (inl h) = right x h
      by (inr apart) = here x (in_edited x apart is)

  -- ---- its shape

  schema_stands : (v : View) → Contains new (item.View v) → Has new (IsSchema v.view.schema)
  schema_stands v is = has_some new new (MeetsAll false new v.view.schema v.needs) (IsSchema v.view.schema) (λ y h. h) (met_in_schema new v.view.schema v.needs) (supported (item.View v) is)

  view_column : (v : View) (y : Item) → Contains new (item.View v) → Contains e y → IsColumnOf v.view y → Contains new y
  view_column v (item.Column x) is in_e of =
      let none : x.domain ≡ None = shape.view_domains v x (in_edited (item.View v) (λ h. h) is) in_e of in
      let schema : Has new (IsSchema x.table.schema) = subst (λ (t : Object). Has new (IsSchema t.schema)) (sym of) (schema_stands v is) in
      let table : Has new (IsTable (path_of x.table)) = (item.View v, is, ap path_of of) in
      let domain : RestsOnDomain new x.table.schema x.domain = subst (λ d. RestsOnDomain new x.table.schema d) (sym none) tt in
      survives_too (item.Column x) ((w.members (item.Column x)).1 (inl in_e)) (schema, table, domain)
  view_column v _ is in_e of = absurd of

  new_shape : HasShape new
  new_shape = record {
    names = λ x y name cx cy nx ny. shape.names x y name (in_edited x (named_no_right x name nx) cx) (in_edited y (named_no_right y name ny) cy) nx ny;
    allowed = each HasAllowedName right_is_allowed shape.allowed;
    derived = each HasDerivedFields right_is_derived shape.derived;
    lists = each HasProperLists right_is_proper shape.lists;
    keys = λ f k cf ck. shape.keys f k (in_edited (item.Foreign f) (λ h. h) cf) (in_edited (item.Key k) (λ h. h) ck);
    primary = λ a b ca cb. shape.primary a b (in_edited (item.Key a) (λ h. h) ca) (in_edited (item.Key b) (λ h. h) cb);
    domains = λ c d cc cd. shape.domains c d (in_edited (item.Column c) (λ h. h) cc) (in_edited (item.Domain d) (λ h. h) cd);
    view_columns = λ v is. (let h = shape.view_columns v (in_edited (item.View v) (λ z. z) is) in (h.0, view_column v h.0 is h.1 h.2, h.2));
    view_domains = λ v c cv cc. shape.view_domains v c (in_edited (item.View v) (λ h. h) cv) (in_edited (item.Column c) (λ h. h) cc);
    no_cycle = λ name role roles l. shape.no_cycle name role roles (leads_in_edited name (role ∷ roles) name l);
    trees = each IsWellFormed right_is_well_formed shape.trees;
  }

  -- ---- the rights that the system could grant for what survives

  column_in_edited : (path : List (List ℕ)) (column : Option (List ℕ)) → HasColumn new path column → HasColumn e path column
  column_in_edited path None h = h
  column_in_edited path (Some name) h = has_in_edited (IsColumn path name) (column_no_right path name) h

  schema_in_edited : (r : Right) (y : Item) → MayBeSystemSchema new r y → MayBeSystemSchema e r y
  schema_in_edited r (item.Schema x) h = (h.0, has_in_edited (MayBeSystemRow x.name r.need) (row_no_right x.name r.need) h.1)
  schema_in_edited r _ h = absurd h

  has_schema_in_edited : (r : Right) → Has new (MayBeSystemSchema new r) → Has e (MayBeSystemSchema e r)
  has_schema_in_edited r h = (h.0, in_edited h.0 (schema_no_right new r h.0 h.2) h.1, schema_in_edited r h.0 h.2)

  may_be_in_edited : (r : Right) → MayBeSystemRight new r → MayBeSystemRight e r
  may_be_in_edited r h = (h.0, column_in_edited r.need.on r.need.column h.1, has_schema_in_edited r h.2)

  right_in_edited : (x : Item) → IsSystemRight new x → IsSystemRight e x
  right_in_edited (item.Held r) h = may_be_in_edited r h
  right_in_edited (item.Grantable r) h = may_be_in_edited r h
  right_in_edited _ h = absurd h

  -- the item with this key survives
  abbrev survivor : (x : Item) → Decided (Has new (λ y. item_cmp y x ≡ Equal))
  survivor x = decided_has (λ y. item_cmp y x ≡ Equal) (λ y. (is_eq (item_cmp y x), Equal-is (item_cmp y x))) new

  abbrev kept : Item → Bool
  kept x = (survivor x).0 || (system_right new x).0

  kept_is : (x : Item) → Decides (kept x) (Has new (λ y. item_cmp y x ≡ Equal) ⊎ IsSystemRight new x)
  kept_is x = Decides-or (survivor x).0 (system_right new x).0 (survivor x).1 (system_right new x).1

  abbrev again : List Item
  again = filter kept all

  again_within : IsWithin again all
  again_within x h = (filter_passes_one kept all x h).0

  of_kept : (x : Item) → Contains all x → Has new (λ y. item_cmp y x ≡ Equal) ⊎ IsSystemRight new x → Contains new x ⊎ IsSystemRight new x
  of_kept x here (inl h) = inl (subst (Contains new) (one_by_key all (rising all w.order) h.0 x (in_all h.0 h.1) here h.2) h.1)
  of_kept x here (inr h) = inr h

  to_kept : (x : Item) → Contains new x ⊎ IsSystemRight new x → Contains again x
  to_kept x (inl h) = Contains-filter kept all x (in_all x h) ((kept_is x).1 (inl (x, h, same_key x)))
  to_kept x (inr h) = Contains-filter kept all x ((w.members x).1 (inr (right_in_edited x h))) ((kept_is x).1 (inr h))

  again_with_system : IsWithSystem new again
  again_with_system = record {
    order = in_order again (IsRising-filter item_cmp kept all (rising all w.order));
    members = λ x. (λ h. (let p = filter_passes_one kept all x h in of_kept x p.0 ((kept_is x).0 p.1)), to_kept x);
  }

  -- ---- survivors of the survivors

  -- a column that keeps a table that survives does so too
  keeper : (s : List Item) (t : Object) (y : Item) → IsWithin s new → Contains new (item.Table t) → Has s (IsSchema t.schema) → Contains all y → Keeps s t y → Contains new y
  keeper s t (item.Column k) within is schema here h =
      let named : Has new (IsSchema k.table.schema) = subst (λ (o : Object). Has new (IsSchema o.schema)) (sym h.0) (has_some s new (IsSchema t.schema) (IsSchema t.schema) within (λ y p. p) schema) in
      let table : Has new (IsTable (path_of k.table)) = (item.Table t, is, ap path_of h.0) in
      let domain : RestsOnDomain new k.table.schema k.domain = subst (λ (o : Object). RestsOnDomain new o.schema k.domain) (sym h.0) (rests_on_domain_more s new within t.schema k.domain h.1) in
      survives_too (item.Column k) here (named, table, domain)
  keeper s t _ within is schema here h = absurd h

  supported_again : (s : List Item) (x : Item) → IsWithin s new → Contains new x → Supported all s x → Supported again s x
  supported_again s (item.Table t) within is h =
      let y = h.1 in
      (h.0, (y.0, to_kept y.0 (inl (keeper s t y.0 within is h.0 y.1 y.2)), y.2))
  supported_again s _ within is h = h

  again_agrees : Agree (Supported all) (Supported again) all again new
  again_agrees = record {
    part = again_within;
    survivors = λ x h. to_kept x (inl h);
    up = λ s x within here h. supported_in again all s again_within x h;
    down = λ s x within here h. supported_again s x within here h;
  }

  pub is_good : IsGood new
  is_good = record {
    shape = new_shape;
    all = again;
    with_system = again_with_system;
    survivors = record { order = survive.order; members = HasSurvivors-part (Supported all) (Supported again) all again new again_agrees survive.members };
  }
