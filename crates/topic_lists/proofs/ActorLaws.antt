-- Who acts, and whom the actor reaches.
use Rattle.std.proofs.Common.{◌≡◌, ◌↔◌, ◌⊎◌, inl, inr, ℕ, Bool, IsTrue, List, [], ◌∷◌, Option, Some, None, refl, sym, ap, subst, ◌∙◌}
use Rattle.std.specs.List.{Contains, slice_get}
use Rattle.cat_items.specs.declared.need.Auth.{Auth}
use Rattle.cat_items.specs.declared.need.Auth.TheVariants.{System, Public, Named}
use Rattle.cat_items.specs.declared.need.Need.{Need}
use Rattle.cat_items.specs.declared.item.Item.{Item}
use Rattle.cat_items.specs.declared.item.Item.TheVariants as item
use Rattle.cat_items.specs.Catalogues.{IsInOrder, OwnsSchema}
use Rattle.cat_items.specs.Reach.{Leads, Reaches}
use Rattle.cat_items.specs.Relevant.{IsActor, IsOwnedSchema, Owns, OwnsPath}
use Rattle.role_graph.specs.Roles.{IsApplicable}
use Rattle.edit_rules.proofs.OwnerLemmas.{one_owner}
use Rattle.topic_lists.specs.Actors.{IsNamedAmong, IsNamedReach, IsReachedBy, IsTheOne}
use Rattle.topic_lists.specs.Sought.{Looks}

-- ---- the owner of a schema

owned_by : (l : List Item) (schema owner : List ℕ) → IsInOrder l → OwnsSchema l schema owner → (a : Auth) (y : Item) → Contains l y → IsOwnedSchema schema a y → Some (Named owner) ≡ Some a
owned_by l schema owner order owns a (item.Schema s) there is =
    let same : s.owner ≡ owner = one_owner l order s owner there (subst (λ n. OwnsSchema l n owner) (sym is.0) owns) in
    ap Some (ap Named (sym same) ∙ sym is.1)
owned_by l schema owner order owns a y there is = absurd is

some_auth : (a b : Auth) → Some a ≡ Some b → a ≡ b
some_auth a b e = cc

pub the_owner : (l : List Item) (schema owner : List ℕ) → IsInOrder l → OwnsSchema l schema owner → IsTheOne (Owns l schema) (Some (Named owner))
the_owner l schema owner order owns a = (
  λ h. owned_by l schema owner order owns a h.0 h.1 h.2,
  λ e. (item.Schema (record { name = schema; owner = owner }), owns, (refl, sym (some_auth (Named owner) a e))),
)

unowned_by : (l : List Item) (schema : List ℕ) → ((owner : List ℕ) → OwnsSchema l schema owner → ⊥) → (a : Auth) (y : Item) → Contains l y → IsOwnedSchema schema a y → ⊥
unowned_by l schema none a (item.Schema s) there is = none s.owner (subst (λ n. OwnsSchema l n s.owner) is.0 there)
unowned_by l schema none a y there is = is

-- none is so
pub no_one : (P : Auth → Type 0) → ((a : Auth) → P a → ⊥) → IsTheOne P None
no_one P none a = (λ h. absurd (none a h), λ e. absurd (let odd : None ≡ Some a = e in cc))

pub no_owner : (l : List Item) (schema : List ℕ) → ((owner : List ℕ) → OwnsSchema l schema owner → ⊥) → IsTheOne (Owns l schema) None
no_owner l schema none = no_one (Owns l schema) (λ a h. unowned_by l schema none a h.0 h.1 h.2)

-- ---- the owner of the schema that a path begins with

pub path_owner : (l : List Item) (path : List (List ℕ)) (schema : List ℕ) (found : Option Auth) → Some schema ≡ slice_get path 0 → IsTheOne (Owns l schema) found → IsTheOne (OwnsPath l path) found
path_owner l [] schema found e one = absurd (let odd : Some schema ≡ None = e in cc)
path_owner l (first ∷ names) schema found e one = let same : schema ≡ first = cc in subst (λ n. IsTheOne (Owns l n) found) same one

-- ---- reach

pub named_reach : (l : List Item) (from : List ℕ) (g : Auth) → ((g ≡ Public) ⊎ IsNamedReach l from g) ↔ Reaches l (Named from) g
named_reach l from System = (λ h. elim h [ inl e ↦ cc | inr named ↦ absurd (let odd = named.2 in cc) ], λ h. absurd h)
named_reach l from Public = (λ h. tt, λ h. inl refl)
named_reach l from (Named to) = (
  λ h. elim h [
    | inl e ↦ absurd (let odd : Named to ≡ Public = e in cc)
    | inr named ↦ let both : Named to ≡ Named named.0 = named.2 in let same : to ≡ named.0 = cc in subst (λ n. Reaches l (Named from) (Named n)) (sym same) named.1
  ],
  λ h. inr (to, h, refl),
)

pub leads_on : (l : List Item) (from to : List ℕ) (roles : List (List ℕ)) → Leads l from roles to → IsApplicable l from to ⊎ (to ≡ from)
leads_on l from to [] h = inr (sym h)
leads_on l from to (role ∷ roles) h = inl (role, roles, h)

-- itself, and what it may set
pub named_among : (l : List Item) (from : List ℕ) (names : List (List ℕ)) → ((name : List ℕ) → Contains names name ↔ IsApplicable l from name) → (g : Auth) → (IsNamedAmong names g ⊎ (g ≡ Named from)) ↔ IsNamedReach l from g
named_among l from names are g = (
  λ h. elim h [
    | inl among ↦ let led = (are among.0).0 among.1 in (among.0, (led.0 ∷ led.1, led.2), among.2)
    | inr e ↦ (from, ([], refl), e)
  ],
  λ h. elim (leads_on l from h.0 h.1.0 h.1.1) [
    | inl led ↦ inl (h.0, (are h.0).1 led, h.2)
    | inr e ↦ inr (h.2 ∙ ap Named e)
  ],
)

-- whom the actor of an item reaches
pub actor_reach : (l : List Item) (x : Item) (actor : Auth) → IsTheOne (IsActor l x) (Some actor) → (g : Auth) → Reaches l actor g ↔ IsReachedBy l x g
actor_reach l x actor one g = (
  λ h. (actor, (one actor).1 refl, h),
  λ h. subst (λ a. Reaches l a g) (sym (some_auth actor h.0 ((one h.0).0 h.1))) h.2,
)

-- the actor's reach, where anything is looked for
pub reached_where : (l : List Item) (x : Item) (needs : List Need) (found all : List Auth) (looks : Bool) → IsTrue looks ↔ Looks needs x → all ≡ found → ((g : Auth) → Contains found g ↔ (IsTrue looks × IsReachedBy l x g))
    → (g : Auth) → Contains all g ↔ (Looks needs x × IsReachedBy l x g)
reached_where l x needs found all looks is same are g = (
  λ h. let by = (are g).0 (subst (λ list. Contains list g) same h) in (is.0 by.0, by.1),
  λ h. subst (λ list. Contains list g) (sym same) ((are g).1 (is.1 h.0, h.1)),
)
