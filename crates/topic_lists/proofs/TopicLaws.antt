-- What an item depends on, and what is asked for it, put together.
use Rattle.std.proofs.Common.{◌≡◌, ◌↔◌, ◌⊎◌, inl, inr, ℕ, List, [], ◌∷◌, Option, Some, None, refl, sym, subst}
use Rattle.std.specs.List.{Contains}
use Rattle.sql_names.specs.declared.object.Object.{Object}
use Rattle.sql_tree.specs.declared.rights.Action.{Action}
use Rattle.sql_tree.specs.declared.rights.Action.TheVariants.{Usage, Execute, Admin}
use Rattle.cat_items.specs.declared.need.Auth.{Auth}
use Rattle.cat_items.specs.declared.need.Auth.TheVariants.{System, Public, Named}
use Rattle.cat_items.specs.declared.need.Need.{Need}
use Rattle.cat_items.specs.declared.item.Right.{Right}
use Rattle.cat_items.specs.declared.item.RoleGrant.{RoleGrant}
use Rattle.cat_items.specs.declared.item.Item.{Item}
use Rattle.cat_items.specs.declared.item.Item.TheVariants as item
use Rattle.cat_items.specs.Reach.{Reaches}
use Rattle.cat_items.specs.Relevant.{IsActor, IsNeedOf}
use Rattle.cat_items.specs.Rights.{path_of}
use Rattle.cascade_laws.specs.Asks as asks
use Rattle.cascade_laws.specs.Asks.{Asks, IsFarTopic, IsFirstTopic, IsFarRightTopic}
use Rattle.cascade_laws.specs.Concerns.{IsRoleGrant}
use Rattle.cascade_laws.specs.Topics as on
use Rattle.cascade_laws.specs.Topics.{Topic, DependsOn, IsAuthTopic, IsColumnTopic, IsGrantOf, IsNameTopic, IsNeedTopic, IsObjectTopic, IsOptionTopic, IsOptionalDomainTopic, IsOwnNeed, IsPartyTopic, IsRightTopic, IsRoleGrantTopic, authorization, role_named, schema, table, base_table, columns, column, domain, routine, key, supply, edges, admins}
use Rattle.board_graph.specs.Boards.{IsOwnTopic}
use Rattle.topic_lists.specs.Actors.{IsReachedBy}
use Rattle.topic_lists.specs.Sought.{IsAdminOptionTopic, IsAdminsTopic, IsAskedFor, IsEdgesTopic, IsOfAny, IsSoughtTopic, IsTopicOf, Looks}

-- ---- topics that have keys of their own

pub own : (t s : Topic) → t ≡ s → IsOwnTopic s → IsOwnTopic t
own t s e h = subst IsOwnTopic (sym e) h

own_auth : (a : Auth) (t : Topic) → IsAuthTopic a t → IsOwnTopic t
own_auth (Named name) t e = own t (authorization name) e tt
own_auth System t e = absurd e
own_auth Public t e = absurd e

own_columns : (o : Object) (names : List (List ℕ)) (t : Topic) → IsColumnTopic o names t → IsOwnTopic t
own_columns o names t h = own t (column (path_of o) h.0) h.2 tt

own_domain : (d : Option Object) (t : Topic) → IsOptionalDomainTopic d t → IsOwnTopic t
own_domain None t e = absurd e
own_domain (Some o) t e = own t (domain (path_of o)) e tt

own_object : (action : Action) (path : List (List ℕ)) (t : Topic) → IsObjectTopic action path t → IsOwnTopic t
own_object Usage path t e = own t (domain path) e tt
own_object Execute path t e = own t (routine path) e tt
own_object Admin path t e = absurd e
own_object action path t e = own t (table path) e tt

own_need : (need : Need) (t : Topic) → IsNeedTopic need t → IsOwnTopic t
own_need need t (inl e) = own_object need.action need.on t e
own_need need t (inr h) = own t (column need.on h.0) h.2 tt

own_party : (grantor grantee : Auth) (t : Topic) → IsPartyTopic grantor grantee t → IsOwnTopic t
own_party System grantee t e = absurd e
own_party Public grantee t (inl e) = absurd e
own_party Public grantee t (inr e) = own_auth grantee t e
own_party (Named name) grantee t (inl e) = own_auth (Named name) t e
own_party (Named name) grantee t (inr e) = own_auth grantee t e

own_right : (r : Right) (t : Topic) → IsRightTopic r t → IsOwnTopic t
own_right r t (inl e) = own_need r.need t e
own_right r t (inr e) = own_party r.grantor r.grantee t e

own_grant : (g : RoleGrant) (t : Topic) → IsRoleGrantTopic g t → IsOwnTopic t
own_grant g t (inl e) = own t (role_named g.role) e tt
own_grant g t (inr (inl e)) = own t (authorization g.grantee) e tt
own_grant g t (inr (inr e)) = own_auth g.grantor t e

pub own_name : (x : Item) (t : Topic) → IsNameTopic x t → IsOwnTopic t
own_name (item.Schema x) t e = own t (authorization x.owner) e tt
own_name (item.Table o) t (inl e) = own t (schema o.schema) e tt
own_name (item.Table o) t (inr e) = own t (columns o) e tt
own_name (item.View v) t e = own t (schema v.view.schema) e tt
own_name (item.Column c) t (inl e) = own t (table (path_of c.table)) e tt
own_name (item.Column c) t (inr e) = own_domain c.domain t e
own_name (item.Domain d) t e = own t (schema d.domain.schema) e tt
own_name (item.DomainCheck d) t (inl e) = own t (schema d.name.schema) e tt
own_name (item.DomainCheck d) t (inr e) = own t (domain (path_of d.domain)) e tt
own_name (item.Key k) t (inl e) = own t (schema k.name.schema) e tt
own_name (item.Key k) t (inr (inl e)) = own t (base_table k.table) e tt
own_name (item.Key k) t (inr (inr e)) = own_columns k.table k.columns t e
own_name (item.Foreign f) t (inl e) = own t (schema f.name.schema) e tt
own_name (item.Foreign f) t (inr (inl e)) = own t (base_table f.table) e tt
own_name (item.Foreign f) t (inr (inr (inl e))) = own_columns f.table f.columns t e
own_name (item.Foreign f) t (inr (inr (inr (inl e)))) = own t (base_table f.target) e tt
own_name (item.Foreign f) t (inr (inr (inr (inr (inl e))))) = own_columns f.target f.target_columns t e
own_name (item.Foreign f) t (inr (inr (inr (inr (inr e))))) = own t (key f.key) e tt
own_name (item.Check k) t (inl e) = own t (schema k.name.schema) e tt
own_name (item.Check k) t (inr (inl e)) = own t (base_table k.table) e tt
own_name (item.Check k) t (inr (inr e)) = own_columns k.table k.columns t e
own_name (item.Assertion a) t e = own t (schema a.name.schema) e tt
own_name (item.Routine r) t e = own t (schema r.routine.schema) e tt
own_name (item.RoleAuth g) t e = own_grant g t e
own_name (item.RoleAdmin g) t e = own_grant g t e
own_name (item.Held r) t e = own_right r t e
own_name (item.Grantable r) t e = own_right r t e
own_name x t e = absurd e

own_first : (path : List (List ℕ)) (t : Topic) → IsFirstTopic path t → IsOwnTopic t
own_first [] t e = absurd e
own_first (name ∷ names) t e = own t (schema name) e tt

own_far_right : (r : Right) (t : Topic) → IsFarRightTopic r t → IsOwnTopic t
own_far_right r t (inl e) = own_first r.need.on t e
own_far_right r t (inr (inl e)) = own_auth r.grantee t e
own_far_right r t (inr (inr e)) = own_auth r.grantor t e

pub own_far : (x : Item) (t : Topic) → IsFarTopic x t → IsOwnTopic t
own_far (item.Column c) t e = own t (schema c.table.schema) e tt
own_far (item.Held r) t e = own_far_right r t e
own_far (item.Grantable r) t e = own_far_right r t e
own_far x t e = absurd e

-- what an option adds to has none
pub no_option : (x : Item) (t : Topic) → IsOptionTopic x t → IsOwnTopic t → ⊥
no_option (item.Grantable r) t e h = subst IsOwnTopic e h
no_option (item.RoleAdmin g) t e h = subst IsOwnTopic e h
no_option x t e h = e

-- ---- topics that are sought

edges_to : (g : Auth) (t : Topic) → IsEdgesTopic g t → (name : List ℕ) × (g ≡ Named name) × (t ≡ edges name)
edges_to (Named name) t e = (name, refl, e)
edges_to System t e = absurd e
edges_to Public t e = absurd e

admins_to : (role : List ℕ) (g : Auth) (t : Topic) → IsAdminsTopic role g t → (name : List ℕ) × (g ≡ Named name) × (t ≡ admins role name)
admins_to role (Named name) t e = (name, refl, e)
admins_to role System t e = absurd e
admins_to role Public t e = absurd e

admin_options : (x : Item) (reached : List Auth) (t : Topic) → IsAdminOptionTopic x reached t → (role : List ℕ) × IsGrantOf role x × IsOfAny (IsAdminsTopic role) reached t
admin_options (item.RoleAuth g) reached t h = (g.role, refl, h)
admin_options (item.RoleAdmin g) reached t h = (g.role, refl, h)
admin_options x reached t h = absurd h

to_admin_options : (x : Item) (reached : List Auth) (t : Topic) (role : List ℕ) → IsGrantOf role x → IsOfAny (IsAdminsTopic role) reached t → IsAdminOptionTopic x reached t
to_admin_options (item.RoleAuth g) reached t role is h = subst (λ r. IsOfAny (IsAdminsTopic r) reached t) (sym is) h
to_admin_options (item.RoleAdmin g) reached t role is h = subst (λ r. IsOfAny (IsAdminsTopic r) reached t) (sym is) h
to_admin_options x reached t role is h = absurd is

own_sought : (needs : List Need) (reached : List Auth) (x : Item) (t : Topic) → IsSoughtTopic needs reached x t → IsOwnTopic t
own_sought needs reached x t (inl of) = elim of.2 [ inl e ↦ own_need of.0 t e | inr to ↦ own t (supply of.0 to.0) to.2 tt ]
own_sought needs reached x t (inr (inl h)) = let to = edges_to h.1.0 t h.1.2 in own t (edges to.0) to.2 tt
own_sought needs reached x t (inr (inr h)) =
    let of = admin_options x reached t h in
    let to = admins_to of.0 of.2.0 t of.2.2 in
    own t (admins of.0 to.0) to.2 tt

granted : (x : Item) (role : List ℕ) → IsGrantOf role x → IsRoleGrant x
granted (item.RoleAuth g) role is = tt
granted (item.RoleAdmin g) role is = tt
granted x role is = absurd is

-- what is put in for an item that has these needs, and whose actor reaches these
abbrev pub IsPutIn : List Need → List Auth → Item → Topic → Type 0
IsPutIn needs reached x t = (IsNameTopic x t ⊎ IsFarTopic x t) ⊎ IsSoughtTopic needs reached x t

-- what an item looks for, of a need
abbrev pub IsLookedFor : List Item → Item → Need → Topic → Type 0
IsLookedFor l x need t = IsNeedTopic need t ⊎ ((a : Auth) × (g : Auth) × IsActor l x a × Reaches l a g × ((t ≡ supply need g) ⊎ IsEdgesTopic g t))

module _ (l : List Item) (x : Item) (needs : List Need) (reached : List Auth) (reach : (g : Auth) → Contains reached g ↔ (Looks needs x × IsReachedBy l x g)) where
  reached_name : (g : Auth) (name : List ℕ) → Contains reached g → g ≡ Named name → IsReachedBy l x (Named name)
  reached_name g name there e = subst (IsReachedBy l x) e ((reach g).0 there).1

  to_reached : (a g : Auth) → Looks needs x → IsActor l x a → Reaches l a g → Contains reached g
  to_reached a g looks actor to = (reach g).1 (looks, (a, actor, to))

  module _ (are : (need : Need) → Contains needs need ↔ IsOwnNeed l x need) where
    to_depends : (t : Topic) → IsSoughtTopic needs reached x t → DependsOn l x t
    to_depends t (inl of) = elim of.2 [
      | inl e ↦ on.of_need of.0 ((are of.0).0 of.1) e
      | inr to ↦ let by = ((reach to.0).0 to.1).1 in on.of_supply of.0 by.0 to.0 ((are of.0).0 of.1) by.1 by.2 to.2
    ]
    to_depends t (inr (inl h)) =
        let to = edges_to h.1.0 t h.1.2 in
        let by = reached_name h.1.0 to.0 h.1.1 to.1 in
        elim h.0 [
          | inl some ↦ on.of_edges some.0 by.0 to.0 ((are some.0).0 some.1) by.1 by.2 to.2
          | inr grant ↦ on.of_role by.0 to.0 grant by.1 by.2 to.2
        ]
    to_depends t (inr (inr h)) =
        let of = admin_options x reached t h in
        let to = admins_to of.0 of.2.0 t of.2.2 in
        let by = reached_name of.2.0 to.0 of.2.1 to.1 in
        on.of_admins by.0 of.0 to.0 of.1 by.1 by.2 to.2

    from_depends : (t : Topic) → DependsOn l x t → IsOwnTopic t → IsNameTopic x t ⊎ IsSoughtTopic needs reached x t
    from_depends t (on.by_name h) own = inl h
    from_depends t (on.by_option h) own = absurd (no_option x t h own)
    from_depends t (on.of_need need is h) own = inr (inl (need, (are need).1 is, inl h))
    from_depends t (on.of_supply need a g is actor to e) own = let here = (are need).1 is in inr (inl (need, here, inr (g, to_reached a g (inl (need, here)) actor to, e)))
    from_depends t (on.of_edges need a name is actor to e) own =
        let looks : Looks needs x = inl (need, (are need).1 is) in
        inr (inr (inl (looks, (Named name, to_reached a (Named name) looks actor to, e))))
    from_depends t (on.of_role a name grant actor to e) own = let looks : Looks needs x = inr grant in inr (inr (inl (looks, (Named name, to_reached a (Named name) looks actor to, e))))
    from_depends t (on.of_admins a role name is actor to e) own =
        inr (inr (inr (to_admin_options x reached t role is (Named name, to_reached a (Named name) (inr (granted x role is)) actor to, e))))

    pub depends_are : (t : Topic) → (IsNameTopic x t ⊎ IsSoughtTopic needs reached x t) ↔ IsTopicOf l x t
    depends_are t = (
      λ h. elim h [
        | inl name ↦ (on.by_name name, own_name x t name)
        | inr sought ↦ (to_depends t sought, own_sought needs reached x t sought)
      ],
      λ h. from_depends t h.0 h.1,
    )

  module _ (are : (need : Need) → Contains needs need → IsNeedOf l x need) where
    to_asks : (t : Topic) → IsSoughtTopic needs reached x t → Asks l x t
    to_asks t (inl of) = elim of.2 [
      | inl e ↦ asks.of_need of.0 (are of.0 of.1) e
      | inr to ↦ let by = ((reach to.0).0 to.1).1 in asks.of_supply of.0 by.0 to.0 (are of.0 of.1) by.1 by.2 to.2
    ]
    to_asks t (inr (inl h)) =
        let to = edges_to h.1.0 t h.1.2 in
        let by = reached_name h.1.0 to.0 h.1.1 to.1 in
        elim h.0 [
          | inl some ↦ asks.of_edges by.0 to.0 (by.1, inl (some.0, are some.0 some.1)) by.2 to.2
          | inr grant ↦ asks.of_edges by.0 to.0 (by.1, inr grant) by.2 to.2
        ]
    to_asks t (inr (inr h)) =
        let of = admin_options x reached t h in
        let to = admins_to of.0 of.2.0 t of.2.2 in
        let by = reached_name of.2.0 to.0 of.2.1 to.1 in
        asks.of_admins by.0 of.0 to.0 of.1 by.1 by.2 to.2

    pub put_is_asked : (t : Topic) → IsPutIn needs reached x t → IsAskedFor l x t
    put_is_asked t (inl (inl name)) = (asks.by_name name, own_name x t name)
    put_is_asked t (inl (inr far)) = (asks.by_far far, own_far x t far)
    put_is_asked t (inr sought) = (to_asks t sought, own_sought needs reached x t sought)

  -- of each need that isn't among these, something else is so of what is looked for
  module _ (Other : Topic → Type 0) (found : (need : Need) → IsNeedOf l x need → Contains needs need ⊎ ((t : Topic) → IsLookedFor l x need t → Other t)) where
    by_edges : (t : Topic) (a : Auth) (name : List ℕ) → Looks needs x → IsActor l x a → Reaches l a (Named name) → t ≡ edges name → IsPutIn needs reached x t ⊎ Other t
    by_edges t a name looks actor to e = inl (inr (inr (inl (looks, (Named name, to_reached a (Named name) looks actor to, e)))))

    from_asks : (t : Topic) → Asks l x t → IsOwnTopic t → IsPutIn needs reached x t ⊎ Other t
    from_asks t (asks.by_name h) own = inl (inl (inl h))
    from_asks t (asks.by_far h) own = inl (inl (inr h))
    from_asks t (asks.by_option h) own = absurd (no_option x t h own)
    from_asks t (asks.of_need need is h) own = elim (found need is) [ inl here ↦ inl (inr (inl (need, here, inl h))) | inr other ↦ inr (other t (inl h)) ]
    from_asks t (asks.of_supply need a g is actor to e) own = elim (found need is) [
      | inl here ↦ inl (inr (inl (need, here, inr (g, to_reached a g (inl (need, here)) actor to, e))))
      | inr other ↦ inr (other t (inr (a, g, actor, to, inl e)))
    ]
    from_asks t (asks.of_edges a name seeks to e) own = elim seeks.1 [
      | inl some ↦ elim (found some.0 some.1) [
        | inl here ↦ by_edges t a name (inl (some.0, here)) seeks.0 to e
        | inr other ↦ inr (other t (inr (a, Named name, seeks.0, to, inr e)))
      ]
      | inr grant ↦ by_edges t a name (inr grant) seeks.0 to e
    ]
    from_asks t (asks.of_admins a role name is actor to e) own =
        inl (inr (inr (inr (to_admin_options x reached t role is (Named name, to_reached a (Named name) (inr (granted x role is)) actor to, e)))))

    pub asked_is_put : (t : Topic) → IsAskedFor l x t → IsPutIn needs reached x t ⊎ Other t
    asked_is_put t h = from_asks t h.0 h.1
