-- Whom the actor of an item reaches is among names that are computed of what is relevant to the item.
use Rattle.std.proofs.Common.{◌≡◌, inl, inr, ℕ, ◌+◌, ◌≤◌, List, [], ◌∷◌, ◌++◌, length, sym, refl, subst, arith}
use Rattle.std.specs.Prelude.{◌≢◌, map}
use Rattle.std.specs.List.{Contains, flat_map}
use Rattle.std.proofs.lemmas.List.{length-append}
use Rattle.std.proofs.lemmas.List.Elements.{Contains-append_left, Contains-append_right}
use Rattle.finite_chains.proofs.Members.{Contains-head, Contains-tail}
use Rattle.cat_items.specs.declared.need.Auth.{Auth}
use Rattle.cat_items.specs.declared.need.Auth.TheVariants.{System, Public, Named}
use Rattle.cat_items.specs.declared.need.Need.{Need}
use Rattle.cat_items.specs.declared.item.Right.{Right}
use Rattle.cat_items.specs.declared.item.Item.{Item}
use Rattle.cat_items.specs.declared.item.Item.TheVariants as item
use Rattle.cat_items.specs.Reach.{GrantsRole, Leads, Reaches}
use Rattle.cat_items.specs.Rights.{IsSchema}
use Rattle.cat_items.specs.Relevant.{Relevant, IsActor, IsOwnedSchema, Owns, OwnsPath, ActsInRight, IsFirstSchema, IsNeedOf}
use Rattle.cat_items.specs.Relevant as relevant
use Rattle.cascade_laws.proofs.Spread.{one_more}
use Rattle.plain_needs.proofs.FlatMembers.{Contains-flat_map}
use Rattle.look_up_bound.proofs.Counting.{at_head, Contains-map}
use Rattle.look_up_bound.proofs.Parts.{reached_name}

abbrev pub auth_name : Auth → List (List ℕ)
auth_name (Named name) = name ∷ []
auth_name a = []

-- the grantor by name
abbrev pub grantor_name : Item → List (List ℕ)
grantor_name (item.RoleAuth g) = auth_name g.grantor
grantor_name (item.RoleAdmin g) = auth_name g.grantor
grantor_name (item.Held r) = auth_name r.grantor
grantor_name (item.Grantable r) = auth_name r.grantor
grantor_name x = []

abbrev pub names_of : Item → List Item → List (List ℕ)
names_of x xs = grantor_name x ++ flat_map reached_name xs

abbrev pub grantees_of : Item → List Item → List Auth
grantees_of x xs = Public ∷ map Named (names_of x xs)

one_auth : (a : Auth) → length (auth_name a) ≤ 1
one_auth (Named name) = omega arith
one_auth System = omega arith
one_auth Public = omega arith

one_grantor : (x : Item) → length (grantor_name x) ≤ 1
one_grantor (item.RoleAuth g) = one_auth g.grantor
one_grantor (item.RoleAdmin g) = one_auth g.grantor
one_grantor (item.Held r) = one_auth r.grantor
one_grantor (item.Grantable r) = one_auth r.grantor
one_grantor _ = omega arith

pub length-names_of : (x : Item) (xs : List Item) → length (names_of x xs) ≤ 1 + length (flat_map reached_name xs)
length-names_of x xs = omega (arith, length-append (grantor_name x) (flat_map reached_name xs), one_grantor x)

-- ---- who acts is among them

at_grantor : (a : Auth) (name : List ℕ) (more : List (List ℕ)) → Named name ≡ a → Contains (auth_name a ++ more) name
at_grantor (Named n) name more e =
    let same : n ≡ name = cc e in
    Contains-append_left (n ∷ []) more name (at_head n name [] same)
at_grantor System name more e = absurd (cc e)
at_grantor Public name more e = absurd (cc e)

module _ (u xs : List Item) where
  owner_there : (schema name : List ℕ) → ((z : Item) → IsSchema schema z → Contains u z → Contains xs z) → Owns u schema (Named name) → Contains (flat_map reached_name xs) name
  owner_there schema name there h = by h.0 h.1 h.2
    where
      by : (z : Item) → Contains u z → IsOwnedSchema schema (Named name) z → Contains (flat_map reached_name xs) name
      by (item.Schema z) inside is =
          let same : z.owner ≡ name = cc (is.1) in
          Contains-flat_map reached_name xs (item.Schema z) name (there (item.Schema z) is.0 inside) (at_head z.owner name [] same)
      by _ inside is = absurd is

  owner_of_path : (path : List (List ℕ)) (name : List ℕ) → ((z : Item) → IsFirstSchema path z → Contains u z → Contains xs z) → OwnsPath u path (Named name) → Contains (flat_map reached_name xs) name
  owner_of_path [] name there h = absurd h
  owner_of_path (schema ∷ names) name there h = owner_there schema name there h

  in_right : (r : Right) (a : Auth) (name : List ℕ) → ((z : Item) → IsFirstSchema r.need.on z → Contains u z → Contains xs z) → ActsInRight u r a (Named name) → Contains (auth_name a ++ flat_map reached_name xs) name
  in_right r System name there h = Contains-append_right (auth_name System) (flat_map reached_name xs) name (owner_of_path r.need.on name there h)
  in_right r Public name there h = at_grantor Public name (flat_map reached_name xs) h
  in_right r (Named n) name there h = at_grantor (Named n) name (flat_map reached_name xs) h

  later : (x : Item) (name : List ℕ) → Contains (flat_map reached_name xs) name → Contains (names_of x xs) name
  later x name h = Contains-append_right (grantor_name x) (flat_map reached_name xs) name h

  actor_there : (x : Item) → ((y : Item) → Contains u y → Relevant u y x → Contains xs y) → (name : List ℕ) → IsActor u x (Named name) → Contains (names_of x xs) name
  actor_there (item.Table t) there name h = later (item.Table t) name (owner_there t.schema name (λ z is inside. there z inside (relevant.named (inl is))) h)
  actor_there (item.View v) there name h = later (item.View v) name (owner_there v.view.schema name (λ z is inside. there z inside (relevant.named is)) h)
  actor_there (item.Column k) there name h = later (item.Column k) name (owner_there k.table.schema name (λ z is inside. there z inside (relevant.named (inl is))) h)
  actor_there (item.Domain d) there name h = later (item.Domain d) name (owner_there d.domain.schema name (λ z is inside. there z inside (relevant.named is)) h)
  actor_there (item.DomainCheck d) there name h = later (item.DomainCheck d) name (owner_there d.name.schema name (λ z is inside. there z inside (relevant.named (inl is))) h)
  actor_there (item.Key k) there name h = later (item.Key k) name (owner_there k.name.schema name (λ z is inside. there z inside (relevant.named (inl is))) h)
  actor_there (item.Foreign f) there name h = later (item.Foreign f) name (owner_there f.name.schema name (λ z is inside. there z inside (relevant.named (inl is))) h)
  actor_there (item.Check k) there name h = later (item.Check k) name (owner_there k.name.schema name (λ z is inside. there z inside (relevant.named (inl is))) h)
  actor_there (item.Assertion w) there name h = later (item.Assertion w) name (owner_there w.name.schema name (λ z is inside. there z inside (relevant.named is)) h)
  actor_there (item.Routine r) there name h = later (item.Routine r) name (owner_there r.routine.schema name (λ z is inside. there z inside (relevant.named is)) h)
  actor_there (item.RoleAuth g) there name h = at_grantor g.grantor name (flat_map reached_name xs) h
  actor_there (item.RoleAdmin g) there name h = at_grantor g.grantor name (flat_map reached_name xs) h
  actor_there (item.Held r) there name h = in_right r r.grantor name (λ z is inside. there z inside (relevant.named (inr (inl is)))) h
  actor_there (item.Grantable r) there name h = in_right r r.grantor name (λ z is inside. there z inside (relevant.named (inr (inl is)))) h
  actor_there _ there name h = absurd h

  -- ---- the system needs nothing

  owner_is_named : (schema : List ℕ) → Owns u schema System → ⊥
  owner_is_named schema h = by h.0 h.2
    where
      by : (z : Item) → IsOwnedSchema schema System z → ⊥
      by (item.Schema z) is = cc (is.1)
      by _ is = is

  pub owner_of_path_is_named : (path : List (List ℕ)) → OwnsPath u path System → ⊥
  owner_of_path_is_named [] h = h
  owner_of_path_is_named (schema ∷ names) h = owner_is_named schema h

  in_right_is_named : (r : Right) (a : Auth) → ActsInRight u r a System → ⊥
  in_right_is_named r System h = owner_of_path_is_named r.need.on h
  in_right_is_named r Public h = cc h
  in_right_is_named r (Named name) h = cc h

  pub system_needs_nothing : (x : Item) (need : Need) → IsNeedOf u x need → IsActor u x System → ⊥
  system_needs_nothing (item.Table t) need sought h = owner_is_named t.schema h
  system_needs_nothing (item.View v) need sought h = owner_is_named v.view.schema h
  system_needs_nothing (item.Column k) need sought h = owner_is_named k.table.schema h
  system_needs_nothing (item.DomainCheck d) need sought h = owner_is_named d.name.schema h
  system_needs_nothing (item.Foreign f) need sought h = owner_is_named f.name.schema h
  system_needs_nothing (item.Check k) need sought h = owner_is_named k.name.schema h
  system_needs_nothing (item.Assertion z) need sought h = owner_is_named z.name.schema h
  system_needs_nothing (item.Routine r) need sought h = owner_is_named r.routine.schema h
  system_needs_nothing (item.Held r) need sought h = in_right_is_named r r.grantor h
  system_needs_nothing (item.Grantable r) need sought h = in_right_is_named r r.grantor h
  system_needs_nothing _ need sought h = absurd sought

  -- ---- whom the actor reaches

  module _ (x : Item) (there : (y : Item) → Contains u y → Relevant u y x → Contains xs y) where
    lead_there : (from : List ℕ) → IsActor u x (Named from) → (mid : List ℕ) (before : List (List ℕ)) → Leads u from before mid → Contains (names_of x xs) mid → (roles : List (List ℕ)) (to : List ℕ) → Leads u mid roles to → Contains (names_of x xs) to
    lead_there from acts mid before led here [] to e = subst (Contains (names_of x xs)) e here
    lead_there from acts mid before led here (role ∷ roles) to h = by (λ longer way further. lead_there from acts role longer way further roles to h.1) h.0.0 h.0.1 h.0.2
      where
        by : ((longer : List (List ℕ)) → Leads u from longer role → Contains (names_of x xs) role → Contains (names_of x xs) to) → (y : Item) → Contains u y → GrantsRole role mid y → Contains (names_of x xs) to
        by next (item.RoleAuth g) inside is =
            let relevant_edge = there (item.RoleAuth g) inside (relevant.role_for (Named from) acts (before, subst (Leads u from before) (sym is.1) led)) in
            let longer = one_more u from before mid role led (item.RoleAuth g, inside, is) in
            next longer.0 longer.1 (later x role (Contains-flat_map reached_name xs (item.RoleAuth g) role relevant_edge (at_head g.role role [] is.0)))
        by next _ inside is = absurd is

    pub name_there : (a : Auth) (name : List ℕ) → IsActor u x a → Reaches u a (Named name) → Contains (names_of x xs) name
    name_there (Named from) name acts way = lead_there from acts from [] refl (actor_there x there from acts) way.0 name way.1
    name_there System name acts way = absurd way
    name_there Public name acts way = absurd way

    pub grantee_there : (a g : Auth) → (a ≢ System) → IsActor u x a → Reaches u a g → Contains (grantees_of x xs) g
    grantee_there a Public other acts way = Contains-head Public (map Named (names_of x xs))
    grantee_there a (Named name) other acts way = Contains-tail Public (map Named (names_of x xs)) (Named name) (Contains-map Named (names_of x xs) name (name_there a name acts way))
    grantee_there System System other acts way = absurd (other refl)
    grantee_there Public System other acts way = absurd way
    grantee_there (Named from) System other acts way = absurd way
