-- What an item is whose key is known.
use Rattle.std.proofs.Common.{◌≡◌, ◌≢◌, ◌↔◌, ◌⊎◌, ℕ, ◌+◌, ◌<◌, List, [], ◌∷◌, ◌++◌, length, take, get_or, sym, ap, subst, ◌∙◌, refl, inl, inr, arith, Ordering}
use Rattle.std.specs.List.{Contains, AllPairs}
use Rattle.std.specs.Ordering.{ordering_reverse}
use Rattle.std.specs.declared.cmp.Ordering.TheVariants.{Less, Equal, Greater}
use Rattle.std.proofs.lemmas.List.{take_more, get_or_default}
use Rattle.std.proofs.lemmas.List.Elements.{Contains-append_left, Contains-push, Contains-push_cases}
use Rattle.sql_names.specs.Names.{name_cmp-IsAntisymmetric}
use Rattle.cat_items.specs.declared.item.Item.{Item}
use Rattle.cat_items.specs.declared.item.Schema.{Schema as SchemaItem}
use Rattle.cat_items.specs.declared.item.Item.TheVariants.{User, Role, Schema, Table, View, Column, Domain, DomainCheck, Key, Foreign, Check, Assertion, Routine, RoleAuth, RoleAdmin, Held, Grantable}
use Rattle.cat_items.specs.Order.{item_cmp}
use Rattle.cat_items.specs.Catalogues.{HasKeyAt, IsUserOf, OwnsSchema, schema_key}
use Rattle.cat_items.proofs.OrderLemmas.{item_cmp-total}
use Rattle.cat_items.proofs.Rising.{fact_from_take}

differs : {A : Type 0} → Less ≡ Equal → A
differs e = absurd (let odd : Less ≡ Equal = e in cc)

exceeds : {A : Type 0} → Greater ≡ Equal → A
exceeds e = absurd (let odd : Greater ≡ Equal = e in cc)

-- it has the key of a schema
pub schema_from_key : (y : Item) (name : List ℕ) → item_cmp y (schema_key name) ≡ Equal → (owner : List ℕ) × (y ≡ Schema (record { name = name; owner = owner }))
schema_from_key (User n) name e = differs e
schema_from_key (Role n) name e = differs e
schema_from_key (Schema s) name e = (s.owner, ap (λ n. Schema (record { name = n; owner = s.owner })) (name_cmp-IsAntisymmetric s.name name e))
schema_from_key (Table t) name e = exceeds e
schema_from_key (View v) name e = exceeds e
schema_from_key (Column c) name e = exceeds e
schema_from_key (Domain d) name e = exceeds e
schema_from_key (DomainCheck d) name e = exceeds e
schema_from_key (Key k) name e = exceeds e
schema_from_key (Foreign f) name e = exceeds e
schema_from_key (Check c) name e = exceeds e
schema_from_key (Assertion a) name e = exceeds e
schema_from_key (Routine r) name e = exceeds e
schema_from_key (RoleAuth g) name e = exceeds e
schema_from_key (RoleAdmin g) name e = exceeds e
schema_from_key (Held r) name e = exceeds e
schema_from_key (Grantable r) name e = exceeds e

-- it has the key of a user
pub user_from_key : (y : Item) (name : List ℕ) → item_cmp y (User name) ≡ Equal → y ≡ User name
user_from_key (User n) name e = ap User (name_cmp-IsAntisymmetric n name e)
user_from_key (Role n) name e = exceeds e
user_from_key (Schema s) name e = exceeds e
user_from_key (Table t) name e = exceeds e
user_from_key (View v) name e = exceeds e
user_from_key (Column c) name e = exceeds e
user_from_key (Domain d) name e = exceeds e
user_from_key (DomainCheck d) name e = exceeds e
user_from_key (Key k) name e = exceeds e
user_from_key (Foreign f) name e = exceeds e
user_from_key (Check c) name e = exceeds e
user_from_key (Assertion a) name e = exceeds e
user_from_key (Routine r) name e = exceeds e
user_from_key (RoleAuth g) name e = exceeds e
user_from_key (RoleAdmin g) name e = exceeds e
user_from_key (Held r) name e = exceeds e
user_from_key (Grantable r) name e = exceeds e

its_own_reverse : (o : Ordering) → o ≡ ordering_reverse o → o ≡ Equal
its_own_reverse Less e = cc
its_own_reverse Equal e = refl
its_own_reverse Greater e = cc

-- an item has its own key
pub same_key : (x : Item) → item_cmp x x ≡ Equal
same_key x = its_own_reverse (item_cmp x x) (item_cmp-total.antisymm x x)

-- the schema of this name has the key at its place
pub owner_at : (items : List Item) (name owner : List ℕ) → OwnsSchema items name owner → (k : ℕ) × HasKeyAt items k (schema_key name)
owner_at items name owner owns =
    (owns.0, (owns.1, λ d. subst (λ z. item_cmp z (schema_key name) ≡ Equal) (sym owns.2 ∙ get_or_default items owns.0 (Schema (record { name = name; owner = owner })) d owns.1) (same_key (schema_key name))))

-- the item at the place of a schema's key is that schema
pub owner_found : (items : List Item) (name : List ℕ) (at : ℕ) (y : Item) (s : SchemaItem) → at < length items → ((d : Item) → item_cmp (get_or items at d) (schema_key name) ≡ Equal) → y ≡ get_or items at y → y ≡ Schema s → OwnsSchema items name s.owner
owner_found items name at y s within same here is =
    let key = schema_from_key (get_or items at y) name (same y) in
    let whole : Schema s ≡ Schema (record { name = name; owner = key.0 }) = sym is ∙ here ∙ key.1 in
    let fields : s ≡ record { name = name; owner = key.0 } = cc in
    let owned : y ≡ Schema (record { name = name; owner = s.owner }) = here ∙ key.1 ∙ ap (λ (t : SchemaItem). Schema (record { name = name; owner = t.owner })) (sym fields) in
    (at, within, get_or_default items at (Schema (record { name = name; owner = s.owner })) y within ∙ sym here ∙ owned)

pub is_schema : (items : List Item) (name : List ℕ) (at : ℕ) (y : Item) → ((d : Item) → item_cmp (get_or items at d) (schema_key name) ≡ Equal) → y ≡ get_or items at y → ((s : SchemaItem) → y ≡ Schema s → ⊥) → ⊥
is_schema items name at y same here other =
    let key = schema_from_key (get_or items at y) name (same y) in
    other (record { name = name; owner = key.0 }) (here ∙ key.1)

-- a name that comes later in the list isn't the name of an earlier user
pub new_user : (items : List Item) (users : List (List ℕ)) (i : ℕ) (name : List ℕ) → AllPairs (λ a b. a ≢ b) users → i < length users → name ≡ get_or users i name → ((x : Item) → Contains items x → IsUserOf (take i users) x) → (k : ℕ) → HasKeyAt items k (User name) → ⊥
new_user items users i name distinct within at members k has =
    let y : Item = get_or items k (User name) in
    let is_user : y ≡ User name = user_from_key y name (has.1 (User name)) in
    let user : IsUserOf (take i users) y = members y (k, has.0, get_or_default items k y (User name) has.0) in
    let same : User user.0 ≡ User name = sym user.2 ∙ is_user in
    let earlier : user.0 ≢ name =
    fact_from_take (λ n. n ≢ name) users i (omega arith) (λ j d below e. distinct j i d below within (e ∙ at ∙ get_or_default users i name d within)) user.0 user.1 in
    earlier cc

-- the users of the front of the list, with one name more
pub users_more : (users : List (List ℕ)) (i : ℕ) (name : List ℕ) → i < length users → name ≡ get_or users i name → (x : Item) → IsUserOf (take (i + 1) users) x ↔ (IsUserOf (take i users) x ⊎ (x ≡ User name))
users_more users i name within at x =
    subst (λ l. IsUserOf l x ↔ (IsUserOf (take i users) x ⊎ (x ≡ User name))) (sym (take_more users i name within ∙ ap (λ n. take i users ++ n ∷ []) (sym at))) (
      λ u. elim (Contains-push_cases (take i users) name u.0 u.1) [
        | inl earlier ↦ inl (u.0, earlier, u.2)
        | inr e ↦ inr (u.2 ∙ ap User (sym e))
      ],
      λ h. elim h [
        | inl u ↦ (u.0, Contains-append_left (take i users) (name ∷ []) u.0 u.1, u.2)
        | inr e ↦ (name, Contains-push (take i users) name, e)
      ],
    )
