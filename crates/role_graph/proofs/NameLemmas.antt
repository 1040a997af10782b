-- Names in order, and the roles of a range.
use Rattle.std.proofs.Common.{◌≡◌, ◌≢◌, ◌⊎◌, ◌↔◌, ℕ, ◌<◌, ◌≤◌, ◌+◌, Bool, true, false, List, [], ◌∷◌, ◌++◌, None, Some, length, take, drop, get_or, Err, Ok, sym, ◌∙◌, ap, subst, refl, inl, inr, arith}
use Rattle.std.specs.List.{AllPairs, Contains, HoldsAt, insert}
use Rattle.std.specs.List.Sorted.{IsBinarySearchResult, IsNonDecreasingBy, IsSortedBy}
use Rattle.std.specs.Ordering.{ordering_index, ordering_reverse, ordering_then, is_lt}
use Rattle.std.specs.Cmp.Lexicographic.{nat_list_cmp_total}
use Rattle.std.specs.declared.cmp.Ordering.{Ordering}
use Rattle.std.specs.declared.cmp.Ordering.TheVariants.{Less, Equal, Greater}
use Rattle.std.proofs.lemmas.Bool.{cases_lt, both_ways}
use Rattle.std.proofs.lemmas.List.{take-append-drop}
use Rattle.std.proofs.lemmas.List.Sorted.{searchable_from_sorted}
use Rattle.std.proofs.lemmas.List.Quantifiers.{all_pairs_push}
use Rattle.std.proofs.lemmas.List.Elements.{Contains-get_or, Contains-append_left, Contains-push, Contains-push_cases}
use Rattle.finite_chains.proofs.Members.{Contains-nil}
use Rattle.finite_chains.proofs.StrictOrders.{IsRising-from_pairs}
use Rattle.finite_chains.specs.StrictOrder.{IsRising}
use Rattle.sql_names.specs.Names.{name_cmp-IsAntisymmetric}
use Rattle.cat_items.specs.declared.need.Auth.TheVariants.{Named}
use Rattle.cat_items.specs.declared.item.RoleGrant.{RoleGrant}
use Rattle.cat_items.specs.declared.item.Item.{Item}
use Rattle.cat_items.specs.declared.item.Item.TheVariants.{RoleAuth}
use Rattle.cat_items.specs.Order.{name_cmp, item_cmp}
use Rattle.cat_items.specs.Catalogues.{IsInOrder}
use Rattle.cat_items.specs.Ranges.{IsRange, IsRoleAuthorization, IsGrantOf}
use Rattle.cat_items.specs.Reach.{Has, GrantsRole, Leads, Reaches}
use Rattle.cat_items.proofs.Rising.{pairs_from_rising, fact_from_take, fact_from_drop, rising_insert, Contains-insert}
use Rattle.role_graph.specs.Roles.{AreNames, IsApplicable, IsEnabled}
use Rattle.role_graph.proofs.TrailLemmas.{authorization_at, grant_of_step}

-- a name put in at its place

-- what a search for a name found

comparisons_rise : (names : List (List ℕ)) → AllPairs (λ a b. name_cmp a b ≡ Less) names → (x : List ℕ) → IsNonDecreasingBy (λ y. ordering_index (name_cmp y x)) names
comparisons_rise names order x = searchable_from_sorted nat_list_cmp_total (λ y. y) names x sorted
  where
    sorted : IsSortedBy (λ a b. is_lt (name_cmp a b)) names
    sorted k d low high =
        ap is_lt (nat_list_cmp_total.antisymm (get_or names (k + 1) d) (get_or names k d) ∙ ap ordering_reverse (order k (k + 1) d (omega arith) high))

pub found_name : (names : List (List ℕ)) (name : List ℕ) (at : ℕ) → at < length names → IsBinarySearchResult (λ y. name_cmp y name) names (Ok at) → Contains names name
found_name names name at low found = (at, low, name_cmp-IsAntisymmetric (get_or names at name) name (found name))

pub order_insert : (names : List (List ℕ)) (name : List ℕ) (at : ℕ) → AllPairs (λ a b. name_cmp a b ≡ Less) names → at ≤ length names → IsBinarySearchResult (λ y. name_cmp y name) names (Err at) → AllPairs (λ a b. name_cmp a b ≡ Less) (insert names at name)
order_insert names name at order within found =
    let part = found (comparisons_rise names order name) in
    let whole : IsRising name_cmp (take at names ++ drop at names) = rw take-append-drop (IsRising-from_pairs name_cmp names order) in
    let greater : (b : List ℕ) → Contains (drop at names) b → name_cmp b name ≡ Greater = fact_from_drop (λ y. name_cmp y name ≡ Greater) names at (λ k d low high. part.1 k d low high) in
    pairs_from_rising name_cmp (insert names at name) (rising_insert name_cmp nat_list_cmp_total (take at names) (drop at names) name whole
    (fact_from_take (λ y. name_cmp y name ≡ Less) names at within (λ k d low. part.0 k d (omega arith) low))
    (λ b c less. let more = greater b c in cc)
    (λ b c same. let more = greater b c in cc))

pub members_insert : (names : List (List ℕ)) (name : List ℕ) (at : ℕ) → (x : List ℕ) → Contains (insert names at name) x ↔ (Contains names x ⊎ (x ≡ name))
members_insert names name at x = subst (λ l. Contains (insert names at name) x ↔ (Contains l x ⊎ (x ≡ name))) (take-append-drop at names) (Contains-insert (take at names) (drop at names) name x)

-- one who is there already
pub members_stay : (names : List (List ℕ)) (name : List ℕ) → Contains names name → (x : List ℕ) → Contains names x ↔ (Contains names x ⊎ (x ≡ name))
members_stay names name there x = (λ c. inl c, λ h. elim h [ inl c ↦ c | inr e ↦ subst (λ z. Contains names z) (sym e) there ])

-- the roles of the role authorizations before a place

pub record IsRoleBefore (items : List Item) (at : ℕ) (role : List ℕ) (k : ℕ) (g : RoleGrant) : Type 0 where
  pub before : k < at
  pub within : k < length items
  pub is : HoldsAt (λ x. x ≡ RoleAuth g) items k
  pub role_is : g.role ≡ role

-- The names are the roles of the role authorizations before a place that authorizations lead to, and come before those from there on.
pub record AreRolesBefore (items : List Item) (from : List ℕ) (at : ℕ) (names : List (List ℕ)) : Type 0 where
  pub order : AllPairs (λ a b. name_cmp a b ≡ Less) names
  pub sound : (role : List ℕ) → Contains names role → IsApplicable items from role
  pub before : (role : List ℕ) → Contains names role → (k : ℕ) × (g : RoleGrant) × IsRoleBefore items at role k g
  pub complete : (role : List ℕ) (k : ℕ) (g : RoleGrant) → IsRoleBefore items at role k g → IsApplicable items from role → Contains names role
  pub apart : (j k : ℕ) (g h : RoleGrant) → j < at → at ≤ k → k < length items → HoldsAt (λ x. x ≡ RoleAuth g) items j → HoldsAt (λ x. x ≡ RoleAuth h) items k → name_cmp g.role h.role ≡ Less

pub roles_begin : (items : List Item) (from : List ℕ) (first last : ℕ) → IsRange items first last IsRoleAuthorization → AreRolesBefore items from first []
roles_begin items from first last range = record {
  order = λ i j d low high. absurd (omega (arith, high));
  sound = λ role c. absurd (Contains-nil role c);
  before = λ role c. absurd (Contains-nil role c);
  complete = λ role k g b led. absurd (none k g b.before b.within b.is);
  apart = λ j k g h low high within at_j at_k. absurd (none j g low (omega (arith, low, high, within)) at_j);
}
  where
    none : (k : ℕ) (g : RoleGrant) → k < first → k < length items → HoldsAt (λ x. x ≡ RoleAuth g) items k → ⊥
    none k g low within is = let there = range.outside k (RoleAuth g) within (authorization_at items k g is (RoleAuth g)) in omega (arith, low, there.0)

-- an earlier role authorization has an earlier role, or the same
role_order : (o rest : Ordering) → ordering_then o rest ≡ Less → o ≢ Equal → o ≡ Less
role_order Less rest e other = refl
role_order Equal rest e other = absurd (other refl)
role_order Greater rest e other = absurd (let odd : Greater ≡ Less = e in cc)

earlier_role : (items : List Item) → IsInOrder items → (j k : ℕ) (g h : RoleGrant) → j < k → k < length items → HoldsAt (λ x. x ≡ RoleAuth g) items j → HoldsAt (λ x. x ≡ RoleAuth h) items k → g.role ≢ h.role → name_cmp g.role h.role ≡ Less
earlier_role items order j k g h low high at_j at_k other =
    let d : Item = RoleAuth g in
    let less : item_cmp (RoleAuth g) (RoleAuth h) ≡ Less = subst (λ x. item_cmp x (RoleAuth h) ≡ Less) (at_j d) (subst (λ y. item_cmp (get_or items j d) y ≡ Less) (at_k d) (order j k d low high)) in
    role_order (name_cmp g.role h.role) _ less (λ e. other (name_cmp-IsAntisymmetric g.role h.role e))

-- the next places: those of one role
pub roles_go : (items : List Item) (from : List ℕ) (at start last : ℕ) (names new : List (List ℕ)) (g : RoleGrant) (led : Bool) → IsInOrder items → AreRolesBefore items from at names → at < length items → HoldsAt (λ x. x ≡ RoleAuth g) items at → IsRange items start last (IsGrantOf g.role)
    → led ≡ true ↔ IsApplicable items from g.role → (led ≡ true → new ≡ names ++ g.role ∷ []) → (led ≡ false → new ≡ names) → AreRolesBefore items from last new
roles_go items from at start last names new g led order old low here range answer more same_names = by_answer led refl
  where
    mine : (start ≤ at) × (at < last)
    mine = range.outside at (RoleAuth g) low (subst (IsGrantOf g.role) (sym (here (RoleAuth g))) refl)

    of_role : (k : ℕ) (h : RoleGrant) → start ≤ k → k < last → HoldsAt (λ x. x ≡ RoleAuth h) items k → h.role ≡ g.role
    of_role k h from_start to_last is = subst (IsGrantOf g.role) (is (RoleAuth h)) (range.inside k (RoleAuth h) from_start to_last)

    other_role : (k : ℕ) (h : RoleGrant) → last ≤ k → k < length items → HoldsAt (λ x. x ≡ RoleAuth h) items k → h.role ≢ g.role
    other_role k h behind within is e = let there = range.outside k (RoleAuth h) within (subst (IsGrantOf g.role) (sym (is (RoleAuth h))) e) in omega (arith, behind, there.1)

    apart : (j k : ℕ) (f h : RoleGrant) → j < last → last ≤ k → k < length items → HoldsAt (λ x. x ≡ RoleAuth f) items j → HoldsAt (λ x. x ≡ RoleAuth h) items k → name_cmp f.role h.role ≡ Less
    apart j k f h below behind within at_j at_k = elim (cases_lt j at) [
      | inl earlier ↦ old.apart j k f h earlier (omega (arith, mine.1, behind)) within at_j at_k
      | inr later ↦ earlier_role items order j k f h (omega (arith, below, behind)) within at_j at_k
          (λ e. other_role k h behind within at_k (sym e ∙ of_role j f (omega (arith, mine.0, later)) below at_j))
    ]

    here_now : (role : List ℕ) → g.role ≡ role → (k : ℕ) × (f : RoleGrant) × IsRoleBefore items last role k f
    here_now role e = (at, g, record { before = mine.1; within = low; is = here; role_is = e })

    earlier_now : (role : List ℕ) → (k : ℕ) × (f : RoleGrant) × IsRoleBefore items at role k f → (k : ℕ) × (f : RoleGrant) × IsRoleBefore items last role k f
    earlier_now role b = (b.0, b.1, record { before = omega (arith, b.2.before, mine.1); within = b.2.within; is = b.2.is; role_is = b.2.role_is })

    -- a role before the end of the range is one before the place, or this one
    cases : (role : List ℕ) (k : ℕ) (f : RoleGrant) → IsRoleBefore items last role k f → IsRoleBefore items at role k f ⊎ (g.role ≡ role)
    cases role k f b = elim (cases_lt k at) [
      | inl earlier ↦ inl (record { before = earlier; within = b.within; is = b.is; role_is = b.role_is })
      | inr later ↦ inr (sym (of_role k f (omega (arith, mine.0, later)) b.before b.is) ∙ b.role_is)
    ]

    by_answer : (b : Bool) → led ≡ b → AreRolesBefore items from last new
    by_answer true e = subst (λ l. AreRolesBefore items from last l) (sym (more e)) (record {
      order = all_pairs_push (λ a b. name_cmp a b ≡ Less) names g.role old.order
          (λ k d within. let b = old.before (get_or names k d) (Contains-get_or names k d within) in
          subst (λ n. name_cmp n g.role ≡ Less) b.2.role_is (old.apart b.0 at b.1 g b.2.before (omega arith) low b.2.is here));
      sound = λ role c. elim (Contains-push_cases names g.role role c) [ inl earlier ↦ old.sound role earlier | inr same ↦ subst (λ n. IsApplicable items from n) same (answer.0 e) ];
      before = λ role c. elim (Contains-push_cases names g.role role c) [ inl earlier ↦ earlier_now role (old.before role earlier) | inr same ↦ here_now role same ];
      complete = λ role k f b walk. elim (cases role k f b) [
        | inl earlier ↦ Contains-append_left names (g.role ∷ []) role (old.complete role k f earlier walk)
        | inr same ↦ subst (λ n. Contains (names ++ g.role ∷ []) n) same (Contains-push names g.role)
      ];
      apart = apart;
    })
    by_answer false e = subst (λ l. AreRolesBefore items from last l) (sym (same_names e)) (record {
      order = old.order;
      sound = old.sound;
      before = λ role c. earlier_now role (old.before role c);
      complete = λ role k f b walk. elim (cases role k f b) [
        | inl earlier ↦ old.complete role k f earlier walk
        | inr same ↦ absurd (both_ways led e (answer.1 (subst (λ n. IsApplicable items from n) (sym same) walk)))
      ];
      apart = apart;
    })

-- the last step of a walk is a role authorization of the role that it leads to
last_step : (items : List Item) (from role : List ℕ) (roles : List (List ℕ)) (to : List ℕ) → Leads items from (role ∷ roles) to → (grantee : List ℕ) × Has items (GrantsRole to grantee)
last_step items from role [] to walk = (from, subst (λ n. Has items (GrantsRole n from)) walk.1 walk.0)
last_step items from role (second ∷ roles) to walk = last_step items role second roles to walk.1

-- behind the range all roles have been seen
pub roles_end : (items : List Item) (from : List ℕ) (first last at : ℕ) (names : List (List ℕ)) → IsRange items first last IsRoleAuthorization → AreRolesBefore items from at names → last ≤ at → AreNames names (IsApplicable items from)
roles_end items from first last at names range before behind = record {
  order = before.order;
  members = λ role. (
    before.sound role,
    λ walk.
        let step = last_step items from walk.0 walk.1 role walk.2 in
        let g = grant_of_step items None role step.0 step.1 in
        let there = range.outside g.0 (RoleAuth g.1) g.2.within (authorization_at items g.0 g.1 g.2.is (RoleAuth g.1)) in
        before.complete role g.0 g.1 (record { before = omega (arith, there.1, behind); within = g.2.within; is = g.2.is; role_is = g.3 }) walk,
  );
}

-- no enabled role, and the roles that the role that is set reaches

pub AreNames-none : (P : List ℕ → Type 0) → ((name : List ℕ) → P name → ⊥) → AreNames [] P
AreNames-none P none = record { order = λ i j d low high. absurd (omega (arith, high)); members = λ name. (λ c. absurd (Contains-nil name c), λ p. absurd (none name p)) }

-- the role that is set, with all that it reaches
pub enabled_names : (items : List Item) (user set : List ℕ) (names new : List (List ℕ)) → Reaches items (Named user) (Named set) → AreNames names (IsApplicable items set) → AllPairs (λ a b. name_cmp a b ≡ Less) new → ((x : List ℕ) → Contains new x ↔ (Contains names x ⊎ (x ≡ set))) → AreNames new (IsEnabled items user (Some set))
enabled_names items user set names new reached roles order members = record {
  order = order;
  members = λ name. (
    λ c. elim ((members name).0 c) [
      | inl further ↦ let walk = (roles.members name).0 further in (reached, (walk.0 ∷ walk.1, walk.2))
      | inr e ↦ (reached, ([], sym e))
    ],
    λ h. (members name).1 (by_roles name h.1.0 h.1.1),
  );
}
  where
    by_roles : (name : List ℕ) (way : List (List ℕ)) → Leads items set way name → Contains names name ⊎ (name ≡ set)
    by_roles name [] e = inr (sym e)
    by_roles name (r ∷ way) walk = inl ((roles.members name).1 (r, way, walk))

-- a role authorization stands among the grants of its role
pub in_own_range : (items shown : List Item) (at start last : ℕ) (g : RoleGrant) → shown ≡ items → at < length items → HoldsAt (λ x. x ≡ RoleAuth g) shown at → IsRange items start last (IsGrantOf g.role) → (start ≤ at) × (at < last)
in_own_range items shown at start last g same within here range =
    let is : get_or items at (RoleAuth g) ≡ RoleAuth g = subst (λ l. get_or l at (RoleAuth g) ≡ RoleAuth g) same (here (RoleAuth g)) in
    range.outside at (RoleAuth g) within (subst (IsGrantOf g.role) (sym is) refl)
