-- For whom a session acts.
use Rattle.std.proofs.Common.{◌≡◌, ◌⊎◌, ◌↔◌, ℕ, true, List, [], ◌∷◌, Option, Some, None, ap, sym, subst, refl, ◌∙◌, inl, inr}
use Rattle.std.specs.List.{Contains}
use Rattle.std.specs.Option.{IfSome}
use Rattle.std.specs.declared.cmp.Ordering.TheVariants.{Less, Equal}
use Rattle.finite_chains.specs.StrictOrder.{IsRising}
use Rattle.finite_chains.proofs.Members.{Contains-nil, Contains-cases}
use Rattle.cat_items.specs.declared.edit.Refusal.TheVariants.{InvalidRole}
use Rattle.cat_items.specs.declared.edit.Who.{Who}
use Rattle.cat_items.specs.declared.item.Schema.{Schema}
use Rattle.cat_items.specs.declared.item.Item.{Item}
use Rattle.cat_items.specs.declared.item.Item.TheVariants as item
use Rattle.cat_items.specs.declared.need.Auth.TheVariants.{Named}
use Rattle.cat_items.specs.Catalogues.{IsInOrder, OwnsSchema, schema_key}
use Rattle.cat_items.specs.Order.{item_cmp}
use Rattle.cat_items.specs.Reach.{Has, Reaches}
use Rattle.cat_items.proofs.CatalogueLemmas.{rising}
use Rattle.cat_items.proofs.KeyLemmas.{same_key}
use Rattle.cat_items.proofs.OrderLemmas.{item_cmp-total}
use Rattle.role_graph.specs.Roles.{IsEnabled}
use Rattle.sql_tree.specs.declared.rights.Grantor.{Grantor}
use Rattle.sql_tree.specs.declared.rights.Grantor.TheVariants.{CurrentUser, CurrentRole}
use Rattle.edit_rules.specs.First.{First, Passes}
use Rattle.edit_rules.specs.Grantors.{IsGrantor, no_current_role}
use Rattle.edit_rules.specs.Owners.{ActsFor, IsCurrentRole, IsOwnSchema}
use Rattle.edit_rules.proofs.FirstLaws.{passes_one}

enabled_by : (c : List Item) (user : List ℕ) (set : Option (List ℕ)) (name : List ℕ) → IsEnabled c user set name → (role : List ℕ) × (set ≡ Some role) × Reaches c (Named user) (Named role)
enabled_by c user None name h = absurd h
enabled_by c user (Some role) name h = (role, refl, h.0)

-- without a current role the session acts for its user alone
pub acts_alone : (c : List Item) (who : Who) (name : List ℕ) → ((role : List ℕ) → IsCurrentRole c who role → ⊥) → (name ≡ who.user → ⊥) → ActsFor c who name → ⊥
acts_alone c who name none apart (inl e) = apart e
acts_alone c who name none apart (inr h) = let by = enabled_by c who.user who.role name h in none by.0 (by.1, by.2)

-- with one also for the roles that this one reaches
pub acts_by_role : (c : List Item) (who : Who) (role name : List ℕ) → IsCurrentRole c who role → (name ≡ who.user → ⊥) → Reaches c (Named role) (Named name) ↔ ActsFor c who name
acts_by_role c who role name is apart = (
  λ walk. inr (subst (λ r. IsEnabled c who.user r name) (sym is.0) (is.1, walk)),
  λ h. by h,
)
  where
    by : ActsFor c who name → Reaches c (Named role) (Named name)
    by (inl e) = absurd (apart e)
    by (inr h) = let enabled : IsEnabled c who.user (Some role) name = subst (λ r. IsEnabled c who.user r name) is.0 h in enabled.1

-- there is no current role where none is set
pub no_role_set : (c : List Item) (who : Who) → who.role ≡ None → (name : List ℕ) → IsCurrentRole c who name → ⊥
no_role_set c who none name is = let set = is.0 in cc

-- nor where the user doesn't reach the one that is set
pub no_role_reached : (c : List Item) (who : Who) (role : List ℕ) → who.role ≡ Some role → (Reaches c (Named who.user) (Named role) → ⊥) → (name : List ℕ) → IsCurrentRole c who name → ⊥
no_role_reached c who role set apart name is =
    let same : name ≡ role = let mine = is.0 in cc in
    apart (subst (λ n. Reaches c (Named who.user) (Named n)) same is.1)

-- items with one key are one
one_by_key : (xs : List Item) → IsRising item_cmp xs → (x y : Item) → Contains xs x → Contains xs y → item_cmp x y ≡ Equal → x ≡ y
one_by_key [] r x y p q e = absurd (Contains-nil x p)
one_by_key (z ∷ xs) r x y p q e = by (Contains-cases z xs x p) (Contains-cases z xs y q) (λ h k. one_by_key xs r.1 x y h k e)
  where
    by : (z ≡ x) ⊎ Contains xs x → (z ≡ y) ⊎ Contains xs y → (Contains xs x → Contains xs y → x ≡ y) → x ≡ y
    by (inl f) (inl g) more = sym f ∙ g
    by (inl f) (inr h) more = let less : item_cmp x y ≡ Less = subst (λ w. item_cmp w y ≡ Less) f (r.0 y h) in cc
    by (inr h) (inl g) more = let less : item_cmp y x ≡ Less = subst (λ w. item_cmp w x ≡ Less) g (r.0 x h) in let back = item_cmp-total.antisymm x y in cc
    by (inr h) (inr k) more = more h k

-- a schema has one owner
pub one_owner : (c : List Item) → IsInOrder c → (s : Schema) (owner : List ℕ) → Contains c (item.Schema s) → OwnsSchema c s.name owner → s.owner ≡ owner
one_owner c order s owner m owns =
    let known : Schema = record { name = s.name; owner = owner } in
    let same : item_cmp (item.Schema s) (item.Schema known) ≡ Equal = same_key (item.Schema s) in
    let one : item.Schema s ≡ item.Schema known = one_by_key c (rising c order) (item.Schema s) (item.Schema known) m owns same in
    let fields : s ≡ known = cc in
    ap (λ (x : Schema). x.owner) fields

-- the schema of the owner for whom the session acts
pub own_schema : (c : List Item) (who : Who) (schema owner : List ℕ) → OwnsSchema c schema owner → ActsFor c who owner → Has c (IsOwnSchema c who schema)
own_schema c who schema owner owns acts = (item.Schema (record { name = schema; owner = owner }), owns, (refl, acts))

others_schema_by : (c : List Item) (who : Who) (schema owner : List ℕ) → IsInOrder c → OwnsSchema c schema owner → (ActsFor c who owner → ⊥) → (y : Item) → Contains c y → IsOwnSchema c who schema y → ⊥
others_schema_by c who schema owner order owns apart (item.Schema s) m is =
    let same : s.owner ≡ owner = one_owner c order s owner m (subst (λ n. OwnsSchema c n owner) (sym is.0) owns) in
    apart (subst (ActsFor c who) same is.1)
others_schema_by c who schema owner order owns apart y m is = is

-- one of an owner for whom it doesn't act is none of its own
pub others_schema : (c : List Item) (who : Who) (schema owner : List ℕ) → IsInOrder c → OwnsSchema c schema owner → (ActsFor c who owner → ⊥) → Has c (IsOwnSchema c who schema) → ⊥
others_schema c who schema owner order owns apart h = others_schema_by c who schema owner order owns apart h.0 h.1 h.2

unowned_by : (c : List Item) (who : Who) (schema : List ℕ) → ((owner : List ℕ) → OwnsSchema c schema owner → ⊥) → (y : Item) → Contains c y → IsOwnSchema c who schema y → ⊥
unowned_by c who schema none (item.Schema s) m is = none s.owner (subst (λ n. OwnsSchema c n s.owner) is.0 m)
unowned_by c who schema none y m is = is

-- nor is one that doesn't stand
pub unowned : (c : List Item) (who : Who) (schema : List ℕ) → ((owner : List ℕ) → OwnsSchema c schema owner → ⊥) → Has c (IsOwnSchema c who schema) → ⊥
unowned c who schema none h = unowned_by c who schema none h.0 h.1 h.2

-- CURRENT_ROLE is named, and there is one
pub role_grants : (c : List Item) (who : Who) (by : Option Grantor) (found : Option (List ℕ)) (role : List ℕ) → by ≡ Some CurrentRole → found ≡ Some role → IfSome found (IsCurrentRole c who)
    → Passes (First (no_current_role c who by ∷ [])) × IsGrantor c who by role
role_grants c who by found role named there current =
    let mine : IsCurrentRole c who role = subst (λ o. IfSome o (IsCurrentRole c who)) there current in
    subst (λ b. Passes (First (no_current_role c who b ∷ [])) × IsGrantor c who b role) (sym named) (passes_one (no_current_role c who (Some CurrentRole)) (λ refusal r. r.0 role mine), mine)

-- it is named, and there is none
pub role_wanting : (c : List Item) (who : Who) (by : Option Grantor) → by ≡ Some CurrentRole → ((role : List ℕ) → IsCurrentRole c who role → ⊥) → no_current_role c who by (InvalidRole true)
role_wanting c who by named none = ((λ name is. none name (subst (λ b. IsGrantor c who b name) named is)), refl)

-- it isn't named
pub user_grants : (c : List Item) (who : Who) (by : Option Grantor) (name : List ℕ) → name ≡ who.user → (by ≡ Some CurrentRole → ⊥) → Passes (First (no_current_role c who by ∷ [])) × IsGrantor c who by name
user_grants c who None name is other = (passes_one (no_current_role c who None) (λ refusal r. r.0 who.user refl), is)
user_grants c who (Some CurrentUser) name is other = (passes_one (no_current_role c who (Some CurrentUser)) (λ refusal r. r.0 who.user refl), is)
user_grants c who (Some CurrentRole) name is other = absurd (other refl)

-- the role that was found
pub found_role : (c : List Item) (who : Who) (found : Option (List ℕ)) (role : List ℕ) → found ≡ Some role → IfSome found (IsCurrentRole c who) → IsCurrentRole c who role
found_role c who found role there current = subst (λ o. IfSome o (IsCurrentRole c who)) there current
