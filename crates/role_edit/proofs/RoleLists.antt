-- Lists of role grants, role by role and grantee by grantee.
use Rattle.std.proofs.Common.{◌≡◌, ◌⊎◌, ◌↔◌, inl, inr, ℕ, ◌+◌, ◌<◌, Bool, true, false, List, [], ◌∷◌, ◌++◌, length, get_or, take, sym, subst, ap, refl, ◌∙◌}
use Rattle.std.specs.List.{Contains}
use Rattle.std.proofs.lemmas.List.Elements.{Contains-append_left, Contains-append_right, Contains-append_cases}
use Rattle.finite_chains.proofs.Members.{Contains-nil, Contains-head, Contains-cases}
use Rattle.cat_items.specs.declared.item.Item.{Item}
use Rattle.cat_items.specs.declared.item.Item.TheVariants as item
use Rattle.cat_items.specs.declared.item.RoleGrant.{RoleGrant}
use Rattle.cat_items.specs.declared.need.Auth.TheVariants.{Named}
use Rattle.edit_rules.proofs.Lists.{take_next}
use Rattle.role_edit.specs.GrantedRoles.{IsGrantBy, IsGrantedRole}

abbrev pub one_grant : List ℕ → List ℕ → List ℕ → RoleGrant
one_grant role grantor grantee = record { role = role; grantor = Named grantor; grantee = grantee }

only : (a b : List ℕ) → Contains (a ∷ []) b → a ≡ b
only a b h = elim (Contains-cases a [] b h) [ inl e ↦ e | inr none ↦ absurd (Contains-nil b none) ]

grant_is : (grantor role grantee : List ℕ) (g : RoleGrant) → IsGrantBy grantor (role ∷ []) (grantee ∷ []) g → g ≡ one_grant role grantor grantee
grant_is grantor role grantee g by =
    let roles : g.role ≡ role = sym (only role g.role by.role) in
    let grantees : g.grantee ≡ grantee = sym (only grantee g.grantee by.grantee) in
    λ i. record { role = roles i; grantor = by.by i; grantee = grantees i }

is_grant : (grantor role grantee : List ℕ) → IsGrantBy grantor (role ∷ []) (grantee ∷ []) (one_grant role grantor grantee)
is_grant grantor role grantee = record { by = refl; role = Contains-head role []; grantee = Contains-head grantee [] }

-- one role authorization, and perhaps its admin option
one_granted_role : (grantor role grantee : List ℕ) (option : Bool) (x : Item)
    → IsGrantedRole grantor (role ∷ []) (grantee ∷ []) option x ↔ ((x ≡ item.RoleAuth (one_grant role grantor grantee)) ⊎ ((option ≡ true) × (x ≡ item.RoleAdmin (one_grant role grantor grantee))))
one_granted_role grantor role grantee option x = (to x, from)
  where
    to : (y : Item) → IsGrantedRole grantor (role ∷ []) (grantee ∷ []) option y → (y ≡ item.RoleAuth (one_grant role grantor grantee)) ⊎ ((option ≡ true) × (y ≡ item.RoleAdmin (one_grant role grantor grantee)))
    to (item.RoleAuth g) is = inl (ap item.RoleAuth (grant_is grantor role grantee g is))
    to (item.RoleAdmin g) is = inr (is.0, ap item.RoleAdmin (grant_is grantor role grantee g is.1))
    to _ is = absurd is

    from : (x ≡ item.RoleAuth (one_grant role grantor grantee)) ⊎ ((option ≡ true) × (x ≡ item.RoleAdmin (one_grant role grantor grantee))) → IsGrantedRole grantor (role ∷ []) (grantee ∷ []) option x
    from (inl e) = subst (IsGrantedRole grantor (role ∷ []) (grantee ∷ []) option) (sym e) (is_grant grantor role grantee)
    from (inr e) = subst (IsGrantedRole grantor (role ∷ []) (grantee ∷ []) option) (sym e.1) (e.0, is_grant grantor role grantee)

abbrev pub Grows : List Item → List Item → (Item → Type 0) → Type 0
Grows old new P = (x : Item) → Contains new x ↔ (Contains old x ⊎ P x)

pub put_both : (grantor role grantee : List ℕ) (option : Bool) (old mid new : List Item) (auth option_item : Item) → option ≡ true → auth ≡ item.RoleAuth (one_grant role grantor grantee) → option_item ≡ item.RoleAdmin (one_grant role grantor grantee)
    → Grows old mid (λ x. x ≡ auth) → Grows mid new (λ x. x ≡ option_item) → Grows old new (IsGrantedRole grantor (role ∷ []) (grantee ∷ []) option)
put_both grantor role grantee option old mid new auth option_item so a o first second x = (to, from)
  where
    to : Contains new x → Contains old x ⊎ IsGrantedRole grantor (role ∷ []) (grantee ∷ []) option x
    to h = elim ((second x).0 h) [
      | inl m ↦ elim ((first x).0 m) [ inl was ↦ inl was | inr e ↦ inr ((one_granted_role grantor role grantee option x).1 (inl (e ∙ a))) ]
      | inr e ↦ inr ((one_granted_role grantor role grantee option x).1 (inr (so, e ∙ o)))
    ]

    from : Contains old x ⊎ IsGrantedRole grantor (role ∷ []) (grantee ∷ []) option x → Contains new x
    from (inl was) = (second x).1 (inl ((first x).1 (inl was)))
    from (inr is) = elim ((one_granted_role grantor role grantee option x).0 is) [
      | inl e ↦ (second x).1 (inl ((first x).1 (inr (e ∙ sym a))))
      | inr e ↦ (second x).1 (inr (e.1 ∙ sym o))
    ]

pub put_auth : (grantor role grantee : List ℕ) (option : Bool) (old new : List Item) (auth : Item) → option ≡ false → auth ≡ item.RoleAuth (one_grant role grantor grantee)
    → Grows old new (λ x. x ≡ auth) → Grows old new (IsGrantedRole grantor (role ∷ []) (grantee ∷ []) option)
put_auth grantor role grantee option old new auth not_so a first x = (to, from)
  where
    to : Contains new x → Contains old x ⊎ IsGrantedRole grantor (role ∷ []) (grantee ∷ []) option x
    to h = elim ((first x).0 h) [ inl was ↦ inl was | inr e ↦ inr ((one_granted_role grantor role grantee option x).1 (inl (e ∙ a))) ]

    from : Contains old x ⊎ IsGrantedRole grantor (role ∷ []) (grantee ∷ []) option x → Contains new x
    from (inl was) = (first x).1 (inl was)
    from (inr is) = elim ((one_granted_role grantor role grantee option x).0 is) [
      | inl e ↦ (first x).1 (inr (e ∙ sym a))
      | inr e ↦ absurd (let odd : true ≡ false = sym e.0 ∙ not_so in cc)
    ]

-- ---- more grantees, and more roles

by_grantees : (grantor : List ℕ) (roles a b : List (List ℕ)) (option : Bool) (x : Item) → IsGrantedRole grantor roles (a ++ b) option x ↔ (IsGrantedRole grantor roles a option x ⊎ IsGrantedRole grantor roles b option x)
by_grantees grantor roles a b option (item.RoleAuth g) = (to, from)
  where
    to : IsGrantBy grantor roles (a ++ b) g → IsGrantBy grantor roles a g ⊎ IsGrantBy grantor roles b g
    to by = elim (Contains-append_cases a b g.grantee by.grantee) [ inl h ↦ inl (record { by = by.by; role = by.role; grantee = h }) | inr h ↦ inr (record { by = by.by; role = by.role; grantee = h }) ]

    from : IsGrantBy grantor roles a g ⊎ IsGrantBy grantor roles b g → IsGrantBy grantor roles (a ++ b) g
    from (inl by) = record { by = by.by; role = by.role; grantee = Contains-append_left a b g.grantee by.grantee }
    from (inr by) = record { by = by.by; role = by.role; grantee = Contains-append_right a b g.grantee by.grantee }
by_grantees grantor roles a b option (item.RoleAdmin g) = (to, from)
  where
    to : (option ≡ true) × IsGrantBy grantor roles (a ++ b) g → ((option ≡ true) × IsGrantBy grantor roles a g) ⊎ ((option ≡ true) × IsGrantBy grantor roles b g)
    to (so, by) = elim (Contains-append_cases a b g.grantee by.grantee) [ inl h ↦ inl (so, record { by = by.by; role = by.role; grantee = h }) | inr h ↦ inr (so, record { by = by.by; role = by.role; grantee = h }) ]

    from : ((option ≡ true) × IsGrantBy grantor roles a g) ⊎ ((option ≡ true) × IsGrantBy grantor roles b g) → (option ≡ true) × IsGrantBy grantor roles (a ++ b) g
    from (inl (so, by)) = (so, record { by = by.by; role = by.role; grantee = Contains-append_left a b g.grantee by.grantee })
    from (inr (so, by)) = (so, record { by = by.by; role = by.role; grantee = Contains-append_right a b g.grantee by.grantee })
by_grantees grantor roles a b option _ = (λ h. absurd h, λ h. elim h [ inl p ↦ p | inr p ↦ p ])

by_roles : (grantor : List ℕ) (a b grantees : List (List ℕ)) (option : Bool) (x : Item) → IsGrantedRole grantor (a ++ b) grantees option x ↔ (IsGrantedRole grantor a grantees option x ⊎ IsGrantedRole grantor b grantees option x)
by_roles grantor a b grantees option (item.RoleAuth g) = (to, from)
  where
    to : IsGrantBy grantor (a ++ b) grantees g → IsGrantBy grantor a grantees g ⊎ IsGrantBy grantor b grantees g
    to by = elim (Contains-append_cases a b g.role by.role) [ inl h ↦ inl (record { by = by.by; role = h; grantee = by.grantee }) | inr h ↦ inr (record { by = by.by; role = h; grantee = by.grantee }) ]

    from : IsGrantBy grantor a grantees g ⊎ IsGrantBy grantor b grantees g → IsGrantBy grantor (a ++ b) grantees g
    from (inl by) = record { by = by.by; role = Contains-append_left a b g.role by.role; grantee = by.grantee }
    from (inr by) = record { by = by.by; role = Contains-append_right a b g.role by.role; grantee = by.grantee }
by_roles grantor a b grantees option (item.RoleAdmin g) = (to, from)
  where
    to : (option ≡ true) × IsGrantBy grantor (a ++ b) grantees g → ((option ≡ true) × IsGrantBy grantor a grantees g) ⊎ ((option ≡ true) × IsGrantBy grantor b grantees g)
    to (so, by) = elim (Contains-append_cases a b g.role by.role) [ inl h ↦ inl (so, record { by = by.by; role = h; grantee = by.grantee }) | inr h ↦ inr (so, record { by = by.by; role = h; grantee = by.grantee }) ]

    from : ((option ≡ true) × IsGrantBy grantor a grantees g) ⊎ ((option ≡ true) × IsGrantBy grantor b grantees g) → (option ≡ true) × IsGrantBy grantor (a ++ b) grantees g
    from (inl (so, by)) = (so, record { by = by.by; role = Contains-append_left a b g.role by.role; grantee = by.grantee })
    from (inr (so, by)) = (so, record { by = by.by; role = Contains-append_right a b g.role by.role; grantee = by.grantee })
by_roles grantor a b grantees option _ = (λ h. absurd h, λ h. elim h [ inl p ↦ p | inr p ↦ p ])

-- one grantee more
pub more_grantees : (grantor : List ℕ) (roles grantees shown : List (List ℕ)) (option : Bool) (old mid new : List Item) (i : ℕ) (x : List ℕ) → shown ≡ grantees → i < length shown → x ≡ get_or shown i x
    → Grows old mid (IsGrantedRole grantor roles (take i grantees) option) → Grows mid new (IsGrantedRole grantor roles (x ∷ []) option) → Grows old new (IsGrantedRole grantor roles (take (i + 1) grantees) option)
more_grantees grantor roles grantees shown option old mid new i x same low is first second =
    subst (λ l. Grows old new (IsGrantedRole grantor roles l option)) (sym (take_next grantees shown i same x low is)) (λ y. (to y, from y))
  where
    to : (y : Item) → Contains new y → Contains old y ⊎ IsGrantedRole grantor roles (take i grantees ++ x ∷ []) option y
    to y h = elim ((second y).0 h) [
      | inl m ↦ elim ((first y).0 m) [ inl was ↦ inl was | inr p ↦ inr ((by_grantees grantor roles (take i grantees) (x ∷ []) option y).1 (inl p)) ]
      | inr p ↦ inr ((by_grantees grantor roles (take i grantees) (x ∷ []) option y).1 (inr p))
    ]

    from : (y : Item) → Contains old y ⊎ IsGrantedRole grantor roles (take i grantees ++ x ∷ []) option y → Contains new y
    from y (inl was) = (second y).1 (inl ((first y).1 (inl was)))
    from y (inr p) = elim ((by_grantees grantor roles (take i grantees) (x ∷ []) option y).0 p) [ inl q ↦ (second y).1 (inl ((first y).1 (inr q))) | inr q ↦ (second y).1 (inr q) ]

-- one role more
pub more_roles : (grantor : List ℕ) (roles shown grantees : List (List ℕ)) (option : Bool) (mid new : List Item) (i : ℕ) (x : List ℕ) → shown ≡ roles → i < length shown → x ≡ get_or shown i x
    → ((y : Item) → Contains mid y ↔ IsGrantedRole grantor (take i roles) grantees option y) → Grows mid new (IsGrantedRole grantor (x ∷ []) grantees option) → (y : Item) → Contains new y ↔ IsGrantedRole grantor (take (i + 1) roles) grantees option y
more_roles grantor roles shown grantees option mid new i x same low is first second =
    subst (λ l. (y : Item) → Contains new y ↔ IsGrantedRole grantor l grantees option y) (sym (take_next roles shown i same x low is)) (λ y. (to y, from y))
  where
    to : (y : Item) → Contains new y → IsGrantedRole grantor (take i roles ++ x ∷ []) grantees option y
    to y h = elim ((second y).0 h) [
      | inl m ↦ (by_roles grantor (take i roles) (x ∷ []) grantees option y).1 (inl ((first y).0 m))
      | inr p ↦ (by_roles grantor (take i roles) (x ∷ []) grantees option y).1 (inr p)
    ]

    from : (y : Item) → IsGrantedRole grantor (take i roles ++ x ∷ []) grantees option y → Contains new y
    from y p = elim ((by_roles grantor (take i roles) (x ∷ []) grantees option y).0 p) [ inl q ↦ (second y).1 (inl ((first y).1 q)) | inr q ↦ (second y).1 (inr q) ]

-- nothing is granted to no one, or of nothing
pub none_granted : (grantor : List ℕ) (roles : List (List ℕ)) (option : Bool) (x : Item) → IsGrantedRole grantor roles [] option x → ⊥
none_granted grantor roles option (item.RoleAuth g) by = Contains-nil g.grantee by.grantee
none_granted grantor roles option (item.RoleAdmin g) by = Contains-nil g.grantee by.1.grantee
none_granted grantor roles option _ by = by

pub nothing_granted : (grantor : List ℕ) (grantees : List (List ℕ)) (option : Bool) (x : Item) → IsGrantedRole grantor [] grantees option x → ⊥
nothing_granted grantor grantees option (item.RoleAuth g) by = Contains-nil g.role by.role
nothing_granted grantor grantees option (item.RoleAdmin g) by = Contains-nil g.role by.1.role
nothing_granted grantor grantees option _ by = by
