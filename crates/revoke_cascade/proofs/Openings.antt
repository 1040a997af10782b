-- A catalogue of users is good.
use Rattle.std.proofs.Common.{◌≡◌, ◌↔◌, ℕ, List, [], ◌∷◌, Option, Some, None, sym, ◌∙◌, ap, subst, inl, inr}
use Rattle.std.specs.List.{Contains, All}
use Rattle.std.proofs.lemmas.List.Elements.{All-contains}
use Rattle.finite_chains.specs.Chains.{Survives}
use Rattle.finite_chains.proofs.Chains.{IsChain-within}
use Rattle.finite_chains.proofs.Members.{Contains-head}
use Rattle.cat_items.specs.declared.item.Item.{Item}
use Rattle.cat_items.specs.declared.item.Item.TheVariants as item
use Rattle.cat_items.specs.Catalogues.{IsInOrder, IsUserOf}
use Rattle.cat_items.specs.Good.{IsGood}
use Rattle.cat_items.specs.Reach.{Has, GrantsRole}
use Rattle.cat_items.specs.Shape.{HasShape, IsAuthorizationName, NameSet, name_of, HasAllowedName, HasDerivedFields, HasProperLists, IsWellFormed}
use Rattle.cat_items.specs.Supported.{Supported}
use Rattle.cat_items.specs.Survivors.{MayBeSystemSchema, IsSystemRight, IsWithSystem, AreSurvivors}

-- a user of an allowed name
abbrev pub IsAllowedUser : Item → Type 0
IsAllowedUser (item.User name) = IsAuthorizationName name
IsAllowedUser x = ⊥

-- a list of users
pub record HasUsers (c : List Item) : Type 0 where
  pub order : IsInOrder c
  pub each : (x : Item) → Contains c x → IsAllowedUser x

by_kind : (P : Item → Type 0) → ((n : List ℕ) → ¬ (P (item.User n))) → (x : Item) → IsAllowedUser x → P x → ⊥
by_kind P user (item.User n) is p = user n p
by_kind P user x is p = absurd is

-- what is no user isn't in it
absent : (c : List Item) → HasUsers c → (P : Item → Type 0) → ((n : List ℕ) → ¬ (P (item.User n))) → ¬ (Has c P)
absent c h P user found = by_kind P user found.0 (h.each found.0 found.1) found.2

-- the system has nothing to grant
no_system_right : (c : List Item) → HasUsers c → (x : Item) → IsSystemRight c x → ⊥
no_system_right c h (item.Held r) is = absent c h (MayBeSystemSchema c r) (λ n p. p) is.2
no_system_right c h (item.Grantable r) is = absent c h (MayBeSystemSchema c r) (λ n p. p) is.2
no_system_right c h x is = absurd is

with_system : (c : List Item) → HasUsers c → IsWithSystem c c
with_system c h = record {
  order = h.order;
  members = λ x. (λ m. inl m, λ e. elim e [ inl m ↦ m | inr s ↦ absurd (no_system_right c h x s) ]);
}

-- a user is a chain alone
chain_of : (c : List Item) (x : Item) → IsAllowedUser x → Contains c x → Survives (Supported c) c x
chain_of c (item.User n) is m = (item.User n ∷ [], (m, tt, tt), Contains-head (item.User n) [])
chain_of c x is m = absurd is

all_survive : (c : List Item) → HasUsers c → AreSurvivors c c
all_survive c h = record {
  order = h.order;
  members = λ x. (λ m. chain_of c x (h.each x m) m, λ s. IsChain-within (Supported c) c s.0 s.1 x s.2);
}

first_of_names : List (List ℕ) → List ℕ
first_of_names [] = []
first_of_names (n ∷ ns) = n

first_name : Option (NameSet × List (List ℕ)) → List ℕ
first_name None = []
first_name (Some p) = first_of_names p.1

names_differ : (x y : Item) (name : NameSet × List (List ℕ)) → IsAllowedUser x → IsAllowedUser y → name_of x ≡ Some name → name_of y ≡ Some name → x ≡ y
unfolding first_name first_of_names
names_differ (item.User n) (item.User m) name is at p q = let e : n ≡ m = ap first_name (p ∙ sym q) in ap item.User e
names_differ (item.User n) y name is at p q = absurd at
names_differ x y name is at p q = absurd is

allowed : (x : Item) → IsAllowedUser x → HasAllowedName x
allowed (item.User n) is = is
allowed x is = absurd is

derived : (x : Item) → IsAllowedUser x → HasDerivedFields x
derived (item.User n) is = tt
derived x is = absurd is

lists : (x : Item) → IsAllowedUser x → HasProperLists x
lists (item.User n) is = tt
lists x is = absurd is

trees : (x : Item) → IsAllowedUser x → IsWellFormed x
trees (item.User n) is = tt
trees x is = absurd is

shape : (c : List Item) → HasUsers c → HasShape c
shape c h = record {
  names = λ x y name m n p q. names_differ x y name (h.each x m) (h.each y n) p q;
  allowed = λ x m. allowed x (h.each x m);
  derived = λ x m. derived x (h.each x m);
  lists = λ x m. lists x (h.each x m);
  keys = λ f k m n e. absurd (h.each (item.Foreign f) m);
  primary = λ a b m n e p q. absurd (h.each (item.Key a) m);
  domains = λ x d m n e. absurd (h.each (item.Column x) m);
  view_columns = λ v m. absurd (h.each (item.View v) m);
  view_domains = λ v x m n e. absurd (h.each (item.View v) m);
  no_cycle = λ name role roles l. absent c h (GrantsRole role name) (λ n p. p) l.0;
  trees = λ x m. trees x (h.each x m);
}

users_good : (c : List Item) → HasUsers c → IsGood c
users_good c h = record { shape = shape c h; all = c; with_system = with_system c h; survivors = all_survive c h }

-- the catalogue of some users is good
pub opening_good : (users : List (List ℕ)) (c : List Item) → All IsAuthorizationName users → IsInOrder c → ((x : Item) → Contains c x ↔ IsUserOf users x) → IsGood c
opening_good users c names order members = users_good c (record {
  order = order;
  each = λ x m. (let user = (members x).0 m in subst IsAllowedUser (sym user.2) (All-contains IsAuthorizationName users user.0 names user.1));
})
