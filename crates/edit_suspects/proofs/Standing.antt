-- What stands in a good catalogue with an item: its schema, and what an option adds to; and each item has a key.
use Rattle.std.proofs.Common.{◌≡◌, ◌⊎◌, inl, inr, false, List, [], ◌∷◌, ap, sym, refl, subst}
use Rattle.std.specs.Prelude.{ℕ}
use Rattle.std.specs.List.{Contains}
use Rattle.std.proofs.lemmas.Bool.{cases_Bool}
use Rattle.std.proofs.lemmas.Bool.Decides.{not_from_Decides}
use Rattle.finite_chains.specs.Chains.{IsChain, IsMonotone, IsWithin}
use Rattle.finite_chains.proofs.Members.{Contains-cases, Contains-nil, Contains-tail}
use Rattle.sql_tree.specs.declared.body.Security.{Security}
use Rattle.sql_tree.specs.declared.body.Security.TheVariants.{Definer, Invoker}
use Rattle.cat_items.specs.declared.need.Need.{Need}
use Rattle.cat_items.specs.declared.item.Right.{Right}
use Rattle.cat_items.specs.declared.item.RoleGrant.{RoleGrant}
use Rattle.cat_items.specs.declared.item.Routine.{Routine}
use Rattle.cat_items.specs.declared.item.Item.{Item}
use Rattle.cat_items.specs.declared.item.Item.TheVariants as item
use Rattle.cat_items.specs.Good.{IsGood}
use Rattle.cat_items.specs.Reach.{Has}
use Rattle.cat_items.specs.Rights.{IsSchema, MeetsAll}
use Rattle.cat_items.specs.Supported.{IsHeld, IsRoleAuth, RoutineRests, Supported}
use Rattle.cat_items.specs.Survivors.{IsSystemRight, MayBeSystemRow}
use Rattle.cat_items.specs.SystemRights.{security_of}
use Rattle.support_laws.proofs.Monotone.{supported_monotone}
use Rattle.cascade_laws.specs.Topics.{Topic, IsOptionTopic, IsUnder}
use Rattle.board_graph.specs.BoardKeys.{IsKeyOf, ghost_key, of_item, of_possible}
use Rattle.edit_suspects.specs.Suspects.{is_among}
use Rattle.edit_suspects.proofs.Alikes.{right_among}
use Rattle.edit_suspects.proofs.GhostKeys.{possible_is_granted}

-- an item of a chain is supported by what has the chain
chain_support : {X : Type 0} (sup : List X → X → Type 0) → IsMonotone sup → (g c chain : List X) → IsChain sup g chain → IsWithin chain c → (x : X) → Contains chain x → sup c x
chain_support sup mono g c [] p w x h = absurd (Contains-nil x h)
chain_support sup mono g c (y ∷ chain) p w x h =
    elim (Contains-cases y chain x h) [
      | inl e ↦ subst (sup c) e (mono.more chain c y (λ z hz. w z (Contains-tail y chain z hz)) p.1)
      | inr later ↦ chain_support sup mono g c chain p.2 (λ z hz. w z (Contains-tail y chain z hz)) x later
    ]

-- a good catalogue holds what it supports
pub supported_in : (c : List Item) (good : IsGood c) (x : Item) → Contains c x → Supported good.all c x
supported_in c good x h =
    let s = (good.survivors.members x).0 h in
    chain_support (Supported good.all) (supported_monotone good.all) good.all c s.0 s.1 (λ y hy. (good.survivors.members y).1 (s.0, s.1, hy)) x s.2

-- ---- the schema of an object

meets_schema : (c : List Item) (name : List ℕ) (needs : List Need) → Has c (MeetsAll false c name needs) → Has c (IsSchema name)
meets_schema c name needs h = by h.0 h.1 h.2
  where
    by : (z : Item) → Contains c z → MeetsAll false c name needs z → Has c (IsSchema name)
    by (item.Schema z) inside is = (item.Schema z, inside, is.0)
    by _ inside is = absurd is

routine_schema : (c : List Item) (r : Routine) (by : Security) → RoutineRests c r by → Has c (IsSchema r.routine.schema)
routine_schema c r Definer is = meets_schema c r.routine.schema r.needs is
routine_schema c r Invoker is = is.0

pub row_schema : (c : List Item) → IsGood c → (name : List ℕ) (need : Need) (o : Item) → Contains c o → MayBeSystemRow name need o → Has c (IsSchema name)
row_schema c good name need (item.Table t) h is = subst (λ n. Has c (IsSchema n)) is.0 (supported_in c good (item.Table t) h).0
row_schema c good name need (item.View v) h is = subst (λ n. Has c (IsSchema n)) is.0 (meets_schema c v.view.schema v.needs (supported_in c good (item.View v) h))
row_schema c good name need (item.Domain d) h is = subst (λ n. Has c (IsSchema n)) is.0 (supported_in c good (item.Domain d) h)
row_schema c good name need (item.Routine r) h is = subst (λ n. Has c (IsSchema n)) is.0 (routine_schema c r (security_of r.body) (supported_in c good (item.Routine r) h))
row_schema c good name need _ h is = absurd is

-- ---- what an option adds to

abbrev pub IsKnown : List Item → Item → Type 0
IsKnown c x = Contains c x ⊎ IsSystemRight c x

held_is : (r : Right) (y : Item) → IsHeld r y → y ≡ item.Held r
held_is r (item.Held other) is = ap item.Held is
held_is r _ is = absurd is

role_auth_is : (g : RoleGrant) (y : Item) → IsRoleAuth g y → y ≡ item.RoleAuth g
role_auth_is g (item.RoleAuth other) is = ap item.RoleAuth is
role_auth_is g _ is = absurd is

held_stands : (c : List Item) (r : Right) → Has c (IsHeld r) → Contains c (item.Held r)
held_stands c r h = subst (Contains c) (held_is r h.0 h.2) h.1

role_auth_stands : (c : List Item) (g : RoleGrant) → Has c (IsRoleAuth g) → Contains c (item.RoleAuth g)
role_auth_stands c g h = subst (Contains c) (role_auth_is g h.0 h.2) h.1

held_known : (c : List Item) → IsGood c → (r : Right) → IsKnown c (item.Grantable r) → IsKnown c (item.Held r)
held_known c good r (inl there) = inl (held_stands c r (supported_in c good (item.Grantable r) there).1)
held_known c good r (inr possible) = inr possible

role_auth_known : (c : List Item) → IsGood c → (g : RoleGrant) → IsKnown c (item.RoleAdmin g) → IsKnown c (item.RoleAuth g)
role_auth_known c good g (inl there) = inl (role_auth_stands c g (supported_in c good (item.RoleAdmin g) there).1)
role_auth_known c good g (inr possible) = absurd possible

-- with what has an option, what the option adds to is known
pub option_known : (c : List Item) → IsGood c → (x y : Item) (t : Topic) → IsKnown c x → IsOptionTopic x t → IsUnder t y → IsKnown c y
option_known c good (item.Grantable r) y t known e under = subst (IsKnown c) (sym (held_is r y (subst (λ s. IsUnder s y) e under))) (held_known c good r known)
option_known c good (item.RoleAdmin g) y t known e under = subst (IsKnown c) (sym (role_auth_is g y (subst (λ s. IsUnder s y) e under))) (role_auth_known c good g known)
option_known c good _ y t known e under = absurd e

-- ---- keys

-- what stands, or could be granted, has a key
pub known_key : (c : List Item) (x : Item) → IsKnown c x → (k : Item) × IsKeyOf c x k
known_key c x (inl there) = (x, of_item there refl)
known_key c x (inr possible) =
    let test = right_among c x (possible_is_granted c x possible) in
    elim (cases_Bool (is_among x c)) [
      | inl e ↦ (x, of_item (test.0 e) refl)
      | inr e ↦ (ghost_key x, of_possible possible (not_from_Decides (is_among x c) test e) refl)
    ]

pub key_is_known : (c : List Item) (x k : Item) → IsKeyOf c x k → IsKnown c x
key_is_known c x k (of_item there e) = inl there
key_is_known c x k (of_possible possible none e) = inr possible
