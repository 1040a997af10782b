-- The places of a session, authorization by authorization.
use Rattle.std.proofs.Common.{◌≡◌, ◌<◌, ◌+◌, ℕ, inl, inr, List, [], ◌∷◌, ◌++◌, take, length, get_or, sym, subst}
use Rattle.std.proofs.lemmas.List.Elements.{Contains-append_left, Contains-push}
use Rattle.std.specs.List.{Contains}
use Rattle.finite_chains.specs.Chains.{IsWithin}
use Rattle.sql_names.specs.NameBytes.{NameBytes, PathNames}
use Rattle.cat_items.specs.declared.need.Auth.{Auth}
use Rattle.cat_items.specs.declared.need.Auth.TheVariants as auths
use Rattle.own_places.proofs.Listed.{taken}
use Rattle.schema_tables.specs.Sight.{Session, IsOwnAuth}

-- PUBLIC, a user, and roles
abbrev pub HasAuths : NameBytes → List NameBytes → List Auth → Type 0
HasAuths user roles found = Contains found auths.Public × Contains found (auths.Named user) × ((name : NameBytes) → Contains roles name → Contains found (auths.Named name))

pub one_more_role : (user : NameBytes) (roles : List NameBytes) (i : ℕ) (role : NameBytes) (found : List Auth) → i < length roles → role ≡ get_or roles i role → HasAuths user (take i roles) found → HasAuths user (take (i + 1) roles) (found ++ auths.Named role ∷ [])
one_more_role user roles i role found within is had = (
  Contains-append_left found (auths.Named role ∷ []) auths.Public had.0,
  Contains-append_left found (auths.Named role ∷ []) (auths.Named user) had.1,
  λ name h. elim (taken roles i role within is name h) [
    | inl before ↦ Contains-append_left found (auths.Named role ∷ []) (auths.Named name) (had.2 name before)
    | inr e ↦ subst (λ n. Contains (found ++ auths.Named role ∷ []) (auths.Named n)) (sym e) (Contains-push found (auths.Named role))
  ],
)

pub own_among : (s : Session) (found : List Auth) → HasAuths s.user s.enabled found → (auth : Auth) → IsOwnAuth s auth → Contains found auth
own_among s found has auths.System own = absurd own
own_among s found has auths.Public own = has.0
own_among s found has (auths.Named name) (inl e) = subst (λ n. Contains found (auths.Named n)) (sym e) has.1
own_among s found has (auths.Named name) (inr h) = has.2 name h

-- the places of authorizations are among these
abbrev pub HasAll : (Auth → List PathNames) → List Auth → List PathNames → Type 0
HasAll places found own = (auth : Auth) → Contains found auth → IsWithin (places auth) own

pub one_more_auth : (places : Auth → List PathNames) (found : List Auth) (i : ℕ) (auth : Auth) (old new : List PathNames) → i < length found → auth ≡ get_or found i auth → HasAll places (take i found) old → IsWithin old new → IsWithin (places auth) new → HasAll places (take (i + 1) found) new
one_more_auth places found i auth old new within is had kept put other h = elim (taken found i auth within is other h) [
  | inl before ↦ λ on there. kept on (had other before on there)
  | inr e ↦ subst (λ a. IsWithin (places a) new) (sym e) put
]

pub one_more_path : (paths : List PathNames) (i : ℕ) (path : PathNames) (old : List PathNames) → i < length paths → path ≡ get_or paths i path → IsWithin (take i paths) old → IsWithin (take (i + 1) paths) (old ++ path ∷ [])
one_more_path paths i path old within is had other h = elim (taken paths i path within is other h) [
  | inl before ↦ Contains-append_left old (path ∷ []) other (had other before)
  | inr e ↦ subst (Contains (old ++ path ∷ [])) (sym e) (Contains-push old path)
]
