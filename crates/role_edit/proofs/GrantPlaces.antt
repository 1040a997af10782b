-- The parts in which grants of roles stand.
use Rattle.std.proofs.Common.{◌≡◌, ℕ, ◌+◌, ◌<◌, ◌≤◌, List, [], ◌∷◌, ◌++◌, length, take, get_or, sym, ◌∙◌, ap, subst, inl, inr, arith, Bor}
use Rattle.std.specs.List.{Contains}
use Rattle.std.proofs.lemmas.List.{take_more, take_all}
use Rattle.std.proofs.lemmas.List.Elements.{Contains-push_cases}
use Rattle.sql_tree.specs.declared.statement.RevokeRoles.{RevokeRoles}
use Rattle.cat_items.specs.declared.item.Item.{Item}
use Rattle.cat_items.specs.declared.item.Item.TheVariants as item
use Rattle.cat_items.specs.declared.ranges.Part.{Part}
use Rattle.cat_items.specs.declared.ranges.Part.TheVariants.{RoleGrants, AdminOptions}
use Rattle.chosen_parts.specs.Parts.{LiesIn}
use Rattle.chosen_parts.proofs.Lying.{lies_before, lies_last}
use Rattle.role_edit.specs.GrantParts.{HoldGrantsOf}
use Rattle.role_edit.specs.RevokedRoles.{IsIdentifiedRoleGrant}

pub no_grants : (roles : List (List ℕ)) → HoldGrantsOf (take 0 roles) []
no_grants roles g h = absurd (omega (arith, h.1))

-- one role more, with its parts behind the others
pub more_grants : (roles : List (List ℕ)) (parts : List Part) (i : ℕ) (role : Bor (List ℕ)) → i < length roles → role.now ≡ get_or roles i role.now → HoldGrantsOf (take i roles) parts
    → HoldGrantsOf (take (i + 1) roles) ((parts ++ RoleGrants role ∷ []) ++ AdminOptions role ∷ [])
more_grants roles parts i role low is old g h =
    elim (Contains-push_cases (take i roles) role.now g.role (subst (λ l. Contains l g.role) (take_more roles i role.now low ∙ ap (λ r. take i roles ++ r ∷ []) (sym is)) h)) [
      | inl before ↦ let was = old g before in (behind (item.RoleAuth g) was.0, behind (item.RoleAdmin g) was.1)
      | inr e ↦ (lies_before (parts ++ RoleGrants role ∷ []) (AdminOptions role) (item.RoleAuth g) (lies_last parts (RoleGrants role) (item.RoleAuth g) (sym e)), lies_last (parts ++ RoleGrants role ∷ []) (AdminOptions role) (item.RoleAdmin g) (sym e))
    ]
  where
    behind : (x : Item) → LiesIn parts x → LiesIn ((parts ++ RoleGrants role ∷ []) ++ AdminOptions role ∷ []) x
    behind x lies = lies_before (parts ++ RoleGrants role ∷ []) (AdminOptions role) x (lies_before parts (RoleGrants role) x lies)

pub all_grants : (roles : List (List ℕ)) (parts : List Part) (i : ℕ) → length roles ≤ i → HoldGrantsOf (take i roles) parts → HoldGrantsOf roles parts
all_grants roles parts i all h = subst (λ l. HoldGrantsOf l parts) (take_all i roles all) h

-- what a REVOKE identifies is in the parts of its roles
pub identified_lies : (grantor : List ℕ) (revoke : RevokeRoles) (parts : List Part) → HoldGrantsOf revoke.roles parts → (x : Item) → IsIdentifiedRoleGrant grantor revoke x → LiesIn parts x
identified_lies grantor revoke parts hold (item.RoleAuth g) is = (hold g is.1.role).0
identified_lies grantor revoke parts hold (item.RoleAdmin g) is = (hold g is.role).1
identified_lies grantor revoke parts hold x is = absurd is
