-- Where nobody is granted a role.
use Rattle.std.proofs.Common.{◌≡◌, ◌↔◌, ◌<◌, ◌≤◌, ℕ, Bool, List, [], ◌∷◌, Option, length, get_or, sym, subst, refl, arith}
use Rattle.finite_chains.proofs.Members.{Contains-nil}
use Rattle.cat_items.specs.declared.need.Auth.{Auth}
use Rattle.cat_items.specs.declared.need.Auth.TheVariants.{System, Public, Named}
use Rattle.cat_items.specs.declared.item.Item.{Item}
use Rattle.cat_items.specs.declared.item.Item.TheVariants.{RoleAuth}
use Rattle.cat_items.specs.Ranges.{IsRange, IsRoleAuthorization, IsGrantOf}
use Rattle.cat_items.specs.Reach.{Has, GrantsRole, Leads, Reaches}
use Rattle.role_graph.specs.Marked.{counted}
use Rattle.role_graph.specs.Roles.{HasNoRoleAuthorization, IsApplicable}
use Rattle.role_graph.proofs.TrailLemmas.{authorization_at, grant_of_step}

-- an empty range of role authorizations: there are none
pub none_in_range : (items : List Item) (from to : ℕ) → IsRange items from to IsRoleAuthorization → to ≤ from → HasNoRoleAuthorization items
none_in_range items from to range empty h =
    let at = h.1 in
    let p = range.outside at.0 h.0 at.1 (subst IsRoleAuthorization (sym at.2) h.2) in
    omega (arith, empty, p.0, p.1)

-- nobody comes further than to itself by no items
leads_nowhere : (from : List ℕ) (roles : List (List ℕ)) (to : List ℕ) → Leads [] from roles to → from ≡ to
leads_nowhere from [] to h = h
leads_nowhere from (r ∷ roles) to h = absurd (Contains-nil h.0.0 h.0.1)

pub alone_named : (from to : List ℕ) → (from ≡ to) ↔ Reaches [] (Named from) (Named to)
alone_named from to = (λ e. ([], e), λ h. leads_nowhere from h.0 to h.1)

-- nor by items of which none is a role authorization
leads_alone : (items : List Item) (marks : Option (List Bool)) (from : List ℕ) (roles : List (List ℕ)) (to : List ℕ) → HasNoRoleAuthorization items → Leads (counted items marks) from roles to → from ≡ to
leads_alone items marks from [] to none h = h
leads_alone items marks from (r ∷ roles) to none h =
    let step = grant_of_step items marks r from h.0 in
    let at = step.2 in
    absurd (none (RoleAuth step.1, (step.0, at.within, at.is (RoleAuth step.1)), tt))

pub reach_alone : (items : List Item) (marks : Option (List Bool)) (a g : Auth) → HasNoRoleAuthorization items → Reaches [] a g ↔ Reaches (counted items marks) a g
reach_alone items marks a Public none = (λ h. h, λ h. h)
reach_alone items marks System System none = (λ h. h, λ h. h)
reach_alone items marks (Named from) (Named to) none =
    (λ h. ([], leads_nowhere from h.0 to h.1), λ h. ([], leads_alone items marks from h.0 to none h.1))
reach_alone items marks Public System none = (λ h. h, λ h. h)
reach_alone items marks Public (Named to) none = (λ h. h, λ h. h)
reach_alone items marks System (Named to) none = (λ h. h, λ h. h)
reach_alone items marks (Named from) System none = (λ h. h, λ h. h)

-- a role that is granted to nobody is applicable for nobody

last_step : (items : List Item) (marks : Option (List Bool)) (from role : List ℕ) (roles : List (List ℕ)) (to : List ℕ) → Leads (counted items marks) from (role ∷ roles) to → (grantee : List ℕ) × Has (counted items marks) (GrantsRole to grantee)
last_step items marks from role [] to h = (from, subst (λ n. Has (counted items marks) (GrantsRole n from)) h.1 h.0)
last_step items marks from role (next ∷ roles) to h = last_step items marks role next roles to h.1

pub granted_to_none : (items : List Item) (marks : Option (List Bool)) (start end : ℕ) (from to : List ℕ) → IsRange items start end (IsGrantOf to) → end ≤ start → IsApplicable (counted items marks) from to → ⊥
granted_to_none items marks start end from to range empty h =
    let last = last_step items marks from h.0 h.1 to h.2 in
    let step = grant_of_step items marks to last.0 last.1 in
    let at = step.2 in
    let here : get_or items step.0 (RoleAuth step.1) ≡ RoleAuth step.1 = at.is (RoleAuth step.1) in
    let p = range.outside step.0 (RoleAuth step.1) at.within (subst (IsGrantOf to) (sym here) step.3) in
    omega (arith, empty, p.0, p.1)
