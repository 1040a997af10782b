-- Cycles of the role authorizations of a list together with new ones.
use Rattle.std.proofs.Common.{◌≡◌, ◌≢◌, ◌⊎◌, ◌↔◌, ◌<◌, ◌≤◌, ◌+◌, ℕ, List, [], ◌∷◌, ◌++◌, None, length, get_or, sym, ◌∙◌, ap, subst, refl, inl, inr, arith}
use Rattle.std.specs.List.{Contains, HoldsAt}
use Rattle.std.proofs.lemmas.Bool.{cases_lt}
use Rattle.std.proofs.lemmas.List.{get_or_default}
use Rattle.cat_items.specs.declared.item.RoleGrant.{RoleGrant}
use Rattle.cat_items.specs.declared.item.Item.TheVariants.{RoleAuth}
use Rattle.cat_items.specs.Ranges.{IsRange, IsRoleAuthorization}
use Rattle.role_graph.proofs.TrailLemmas.{authorization_at, grant_of_step, one_grant}
use Rattle.cat_items.specs.declared.item.Item.{Item}
use Rattle.cat_items.specs.declared.need.Auth.TheVariants.{Named}
use Rattle.cat_items.specs.Reach.{Has, GrantsRole, Leads, Reaches}
use Rattle.role_graph.specs.Roles.{IsApplicable}
use Rattle.role_graph.specs.Cycles.{StepsLead, HasCycle, IsStep, Closes, SomeReaches}

-- role authorizations of the list are steps
steps_from_leads : (s : List Item) (roles grantees : List (List ℕ)) (from : List ℕ) (way : List (List ℕ)) (to : List ℕ) → Leads s from way to → StepsLead (IsStep s roles grantees) from way to
steps_from_leads s roles grantees from [] to h = h
steps_from_leads s roles grantees from (r ∷ way) to h = (inl h.0, steps_from_leads s roles grantees r way to h.1)

leads_append : (s : List Item) (a : List ℕ) (first : List (List ℕ)) (b : List ℕ) (rest : List (List ℕ)) (c : List ℕ) → Leads s a first b → Leads s b rest c → Leads s a (first ++ rest) c
leads_append s a [] b rest c p q = subst (λ n. Leads s n rest c) (sym p) q
leads_append s a (r ∷ first) b rest c p q = (p.0, leads_append s r first b rest c p.1 q)

-- one name reaches another where role authorizations lead there
pub reaches_named : (s : List Item) (from to : List ℕ) → from ≢ to → IsApplicable s from to ↔ Reaches s (Named from) (Named to)
reaches_named s from to other = (λ walk. (walk.0 ∷ walk.1, walk.2), λ h. by_roles h.0 h.1)
  where
    by_roles : (way : List (List ℕ)) → Leads s from way to → IsApplicable s from to
    by_roles [] e = absurd (other e)
    by_roles (r ∷ way) walk = (r, way, walk)

-- Old steps alone, or old steps to a grantee of these and from a role of these: what a walk comes to, the steps between left out.
abbrev Joins : List Item → List (List ℕ) → List (List ℕ) → List ℕ → List ℕ → Type 0
Joins s roles grantees from to =
    Reaches s (Named from) (Named to)
    ⊎ ((grantee role : List ℕ) × Contains grantees grantee × Contains roles role × Reaches s (Named from) (Named grantee) × Reaches s (Named role) (Named to))

step_on : (s : List Item) (from role to : List ℕ) → Has s (GrantsRole role from) → Reaches s (Named role) (Named to) → Reaches s (Named from) (Named to)
step_on s from role to step walk = (role ∷ walk.0, (step, walk.1))

joins : (s : List Item) (roles grantees : List (List ℕ)) (from : List ℕ) (way : List (List ℕ)) (to : List ℕ) → StepsLead (IsStep s roles grantees) from way to → Joins s roles grantees from to
joins s roles grantees from [] to h = inl ([], h)
joins s roles grantees from (r ∷ way) to h =
    let rest = joins s roles grantees r way to h.1 in
    elim h.0 [
      | inl old ↦ elim rest [
        | inl walk ↦ inl (step_on s from r to old walk)
        | inr mixed ↦ inr (mixed.0, mixed.1, mixed.2, mixed.3, step_on s from r mixed.0 old mixed.4, mixed.5)
      ]
      | inr new ↦ elim rest [
        | inl walk ↦ inr (from, r, new.1, new.0, ([], refl), walk)
        | inr mixed ↦ inr (from, mixed.1, new.1, mixed.3, ([], refl), mixed.5)
      ]
    ]

-- a role of these that reaches a grantee of these, by old steps that end where they go on
meet : (s : List Item) (a b c : List ℕ) → Reaches s (Named a) (Named b) → Reaches s (Named b) (Named c) → Reaches s (Named a) (Named c)
meet s a b c p q = (p.0 ++ q.0, leads_append s a p.0 b q.0 c p.1 q.1)

-- a cycle is one of the list's own, or a role reaches a grantee
pub cycle_found : (s : List Item) (roles grantees : List (List ℕ)) → HasCycle (IsStep s roles grantees) → ((role grantee : List ℕ) × Closes s role grantee) ⊎ SomeReaches s roles grantees
cycle_found s roles grantees cycle =
    let name : List ℕ = cycle.0 in
    let role : List ℕ = cycle.1 in
    let rest = joins s roles grantees role cycle.2 name cycle.3.1 in
    elim cycle.3.0 [
      | inl old ↦ elim rest [
        | inl walk ↦ inl (role, name, (old, walk))
        | inr mixed ↦ inr (mixed.1, mixed.0, mixed.3, mixed.2, meet s mixed.1 name mixed.0 mixed.5 (step_on s name role mixed.0 old mixed.4))
      ]
      | inr new ↦ elim rest [
        | inl walk ↦ inr (role, name, new.0, new.1, walk)
        | inr mixed ↦ inr (mixed.1, name, mixed.3, new.1, mixed.5)
      ]
    ]

pub cycle_of_own : (s : List Item) (roles grantees : List (List ℕ)) → ((role grantee : List ℕ) × Closes s role grantee) → HasCycle (IsStep s roles grantees)
cycle_of_own s roles grantees h = (h.1, h.0, h.2.1.0, (inl h.2.0, steps_from_leads s roles grantees h.0 h.2.1.0 h.1 h.2.1.1))

pub cycle_of_new : (s : List Item) (roles grantees : List (List ℕ)) → SomeReaches s roles grantees → HasCycle (IsStep s roles grantees)
cycle_of_new s roles grantees h = (h.1, h.0, h.4.0, (inr (h.2, h.3), steps_from_leads s roles grantees h.0 h.4.0 h.1 h.4.1))

-- role authorizations of the list that close no cycle

pub own_cycle : (items shown : List Item) (at : ℕ) (g : RoleGrant) → shown ≡ items → at < length items → HoldsAt (λ x. x ≡ RoleAuth g) shown at → Reaches items (Named g.role) (Named g.grantee) → (role grantee : List ℕ) × Closes items role grantee
own_cycle items shown at g same within here walk =
    (g.role, g.grantee, ((RoleAuth g, (at, within, subst (λ l. get_or l at (RoleAuth g) ≡ RoleAuth g) same (here (RoleAuth g))), (refl, refl)), walk))

abbrev pub NoneCloses : List Item → ℕ → ℕ → Type 0
NoneCloses items start at = (k : ℕ) (g : RoleGrant) → start ≤ k → k < at → HoldsAt (λ x. x ≡ RoleAuth g) items k → Reaches items (Named g.role) (Named g.grantee) → ⊥

pub none_closes_more : (items shown : List Item) (start at : ℕ) (g : RoleGrant) → shown ≡ items → NoneCloses items start at → HoldsAt (λ x. x ≡ RoleAuth g) shown at → (Reaches items (Named g.role) (Named g.grantee) → ⊥) → NoneCloses items start (at + 1)
none_closes_more items shown start at g same before here none k h low high there walk = elim (cases_lt k at) [
  | inl earlier ↦ before k h low earlier there walk
  | inr now ↦
      let e : k ≡ at = omega (arith, now, high) in
      let is : h ≡ g = one_grant items at h g (subst (λ n. HoldsAt (λ x. x ≡ RoleAuth h) items n) e there) (subst (λ l. HoldsAt (λ x. x ≡ RoleAuth g) l at) same here) in
      none (subst (λ (z : RoleGrant). Reaches items (Named z.role) (Named z.grantee)) is walk)
]

pub none_closes : (items : List Item) (start last at : ℕ) → IsRange items start last IsRoleAuthorization → last ≤ at → NoneCloses items start at → ((role grantee : List ℕ) × Closes items role grantee) → ⊥
none_closes items start last at range behind none h =
    let step = grant_of_step items None h.0 h.1 h.2.0 in
    let there = range.outside step.0 (RoleAuth step.1) step.2.within (authorization_at items step.0 step.1 step.2.is (RoleAuth step.1)) in
    none step.0 step.1 there.0 (omega (arith, there.1, behind)) step.2.is
    (subst (λ n. Reaches items (Named step.1.role) (Named n)) (sym step.4) (subst (λ n. Reaches items (Named n) (Named h.1)) (sym step.3) h.2.1))

-- none of the first items of a list is so

abbrev pub NoneBelow : {X : Type 0} → (X → Type 0) → List X → ℕ → Type 0
NoneBelow {X} P xs n = (k : ℕ) (d : X) → k < n → P (get_or xs k d) → ⊥

pub none_more : {X : Type 0} (P : X → Type 0) (xs shown : List X) (i : ℕ) (x : X) → shown ≡ xs → NoneBelow P xs i → i < length xs → x ≡ get_or shown i x → (P x → ⊥) → NoneBelow P xs (i + 1)
none_more P xs shown i x same before within is other k d high p = elim (cases_lt k i) [
  | inl earlier ↦ before k d earlier p
  | inr now ↦
      let e : k ≡ i = omega (arith, now, high) in
      let here : get_or xs k d ≡ x = ap (λ n. get_or xs n d) e ∙ get_or_default xs i d x within ∙ sym (is ∙ ap (λ l. get_or l i x) same) in
      other (subst P here p)
]

pub none_at_all : {X : Type 0} (P : X → Type 0) (xs : List X) (n : ℕ) → length xs ≤ n → NoneBelow P xs n → (x : X) → Contains xs x → P x → ⊥
none_at_all P xs n all none x c p = none c.0 x (omega (arith, c.1, all)) (subst P (sym c.2) p)

pub some_at : {X : Type 0} (xs shown : List X) (i : ℕ) (x : X) → shown ≡ xs → i < length xs → x ≡ get_or shown i x → Contains xs x
some_at xs shown i x same within is = (i, within, sym (is ∙ ap (λ l. get_or l i x) same))
