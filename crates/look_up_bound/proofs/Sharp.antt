-- The topics that an item asks for are no more than the parts of needs, and the schemas and role authorizations, tell that are relevant to it.
use Rattle.std.proofs.Common.{◌≡◌, ◌⊎◌, inl, inr, Bool, true, false, ℕ, ◌+◌, ◌≤◌, List, ◌++◌, length, ap, sym, refl, subst, arith}
use Rattle.std.specs.Prelude.{◌≢◌, ◌*◌, cond, map}
use Rattle.std.specs.List.{AllPairs, Contains, count_by, flat_map}
use Rattle.std.proofs.lemmas.List.{length-append, length-map}
use Rattle.std.proofs.lemmas.List.Elements.{Contains-append_left, Contains-append_right}
use Rattle.finite_chains.specs.Chains.{IsWithin}
use Rattle.cat_items.specs.declared.need.Auth.{Auth}
use Rattle.cat_items.specs.declared.need.Auth.TheVariants.{Named, Public, System}
use Rattle.cat_items.specs.declared.need.Need.{Need}
use Rattle.cat_items.specs.declared.item.Right.{Right}
use Rattle.cat_items.specs.declared.item.Item.{Item}
use Rattle.cat_items.specs.declared.item.Item.TheVariants as item
use Rattle.cat_items.specs.Bound.{Lists}
use Rattle.cat_items.specs.Reach.{Reaches}
use Rattle.cat_items.specs.Relevant.{Relevant, IsActor, IsNeedOf, IsRightNeed}
use Rattle.cascade_laws.specs.Topics.{Topic, IsGrantOf, IsUnder, supply, edges, admins}
use Rattle.cascade_laws.specs.Asks.{Asks, by_name, by_far, by_option, of_need, of_supply, of_edges, of_admins}
use Rattle.plain_needs.proofs.FlatMembers.{Contains-flat_map}
use Rattle.look_up_bound.specs.PossibleRights.{IsBySystem, leads_on}
use Rattle.look_up_bound.specs.TopicParts.{HasParts}
use Rattle.look_up_bound.proofs.AskedRelevant.{IsOfName, near_is_of_name, has_under, of_name, of_far, of_option, of_need_name, name_relevant, far_relevant, option_relevant, need_relevant}
use Rattle.look_up_bound.proofs.Counting.{once, no_longer, length-at_most, Contains-map}
use Rattle.look_up_bound.proofs.Few.{asked_sharply, computed_longer, names_few, of_role}
use Rattle.look_up_bound.proofs.MoreAsked.{asks_more}
use Rattle.look_up_bound.proofs.Parts.{home_topics, at_most_two, under_home, is_part, all_apart}
use Rattle.look_up_bound.proofs.Reached.{grantor_name, auth_name, names_of, grantees_of, name_there, grantee_there, system_needs_nothing}
use Rattle.look_up_bound.proofs.Squares.{most_by}

abbrev pub is_named : Auth → Bool
is_named (Named name) = true
is_named a = false

-- a role grant, or a right whose grantor is a user or a role
abbrev pub is_given : Item → Bool
is_given (item.RoleAuth g) = true
is_given (item.RoleAdmin g) = true
is_given (item.Held r) = is_named r.grantor
is_given (item.Grantable r) = is_named r.grantor
is_given x = false

abbrev pub most_topics : Item → List Item → ℕ
most_topics x xs = cond (is_given x) (4 * length xs + 3) (most_by (length xs) (count_by is_part xs) (count_by leads_on xs))

pub system_given : (x : Item) → IsBySystem x → is_given x ≡ false
system_given (item.Held r) e = subst (λ a. is_named a ≡ false) (sym e) refl
system_given (item.Grantable r) e = subst (λ a. is_named a ≡ false) (sym e) refl
system_given _ e = absurd e

-- where it is no such item, that is by the parts, schemas and role authorizations
pub most_plain : (x : Item) (xs : List Item) → is_given x ≡ false → most_topics x xs ≡ most_by (length xs) (count_by is_part xs) (count_by leads_on xs)
most_plain x xs e = ap (λ b. cond b (4 * length xs + 3) (most_by (length xs) (count_by is_part xs) (count_by leads_on xs))) e

-- ---- a right whose grantor is a user or a role looks for one need

module _ (u xs : List Item) (x : Item) (need : Need) (there : (y : Item) → Contains u y → Relevant u y x → Contains xs y) (one : (n : Need) → IsNeedOf u x n → n ≡ need) (no_role : (role : List ℕ) → IsGrantOf role x → ⊥) where
  abbrev rest : List Topic
  rest = map (supply need) (grantees_of x xs) ++ map edges (names_of x xs)

  abbrev given_topics : List Topic
  given_topics = flat_map home_topics xs ++ rest

  named_there : (t : Topic) → IsOfName t → ((y : Item) → IsUnder t y → Relevant u y x) → HasParts u t → Contains given_topics t
  named_there t like is_relevant parts =
      let h = has_under u t like parts in
      Contains-append_left (flat_map home_topics xs) rest t (Contains-flat_map home_topics xs h.0 t (there h.0 h.1 (is_relevant h.0 h.2)) (under_home t h.0 h.2))

  rest_there : (t : Topic) → Contains rest t → Contains given_topics t
  rest_there t h = Contains-append_right (flat_map home_topics xs) rest t h

  supply_there : (n : Need) (a g : Auth) → IsNeedOf u x n → IsActor u x a → Reaches u a g → Contains given_topics (supply n g)
  supply_there n a g sought acts way =
      let each = Contains-map (supply need) (grantees_of x xs) g (grantee_there u xs x there a g (λ e. system_needs_nothing u xs x n sought (subst (IsActor u x) e acts)) acts way) in
      subst (λ m. Contains given_topics (supply m g)) (sym (one n sought)) (rest_there (supply need g) (Contains-append_left (map (supply need) (grantees_of x xs)) (map edges (names_of x xs)) (supply need g) each))

  edge_there : (a : Auth) (name : List ℕ) → IsActor u x a → Reaches u a (Named name) → Contains given_topics (edges name)
  edge_there a name acts way = rest_there (edges name) (Contains-append_right (map (supply need) (grantees_of x xs)) (map edges (names_of x xs)) (edges name) (Contains-map edges (names_of x xs) name (name_there u xs x there a name acts way)))

  given_listed : (t : Topic) → Asks u x t → HasParts u t → Contains given_topics t
  given_listed t (by_name e) parts = named_there t (near_is_of_name t (of_name x t e)) (λ y is. name_relevant u x y t is e) parts
  given_listed t (by_far e) parts = named_there t (near_is_of_name t (of_far x t e)) (λ y is. far_relevant u x y t is e) parts
  given_listed t (by_option e) parts = named_there t (of_option x t e) (λ y is. option_relevant u x y t is e) parts
  given_listed t (of_need n sought e) parts = named_there t (near_is_of_name t (of_need_name n t e)) (λ y is. need_relevant u x y t is n sought e) parts
  given_listed t (of_supply n a g sought acts way e) parts = subst (Contains given_topics) (sym e) (supply_there n a g sought acts way)
  given_listed t (of_edges a name seeks way e) parts = subst (Contains given_topics) (sym e) (edge_there a name seeks.0 way)
  given_listed t (of_admins a role name grants acts way e) parts = absurd (no_role role grants)

  given_few : length given_topics ≤ 4 * length xs + 3
  given_few =
      omega (
        arith,
        length-append (flat_map home_topics xs) rest,
        length-append (map (supply need) (grantees_of x xs)) (map edges (names_of x xs)),
        length-map (grantees_of x xs) (supply need),
        length-map (names_of x xs) edges,
        length-map (names_of x xs) Named,
        length-at_most home_topics 2 xs at_most_two,
        names_few x xs,
        all_apart xs,
      )

-- ---- each item

module _ (u c : List Item) (xs : List Item) (within : IsWithin c u) (topics : List Topic) (differ : AllPairs (λ s t. s ≢ t) topics) where
  abbrev AsksFor : Item → Type 0
  AsksFor x = (t : Topic) → Contains topics t → Asks c x t × HasParts u t

  abbrev HasAll : Item → Type 0
  HasAll x = Lists (λ y. Contains u y × Relevant u y x) xs

  given : (x : Item) (need : Need) → HasAll x → AsksFor x → ((n : Need) → IsNeedOf u x n → n ≡ need) → ((role : List ℕ) → IsGrantOf role x → ⊥) → length topics ≤ 4 * length xs + 3
  given x need lists asked one no_role =
      let there : (y : Item) → Contains u y → Relevant u y x → Contains xs y = λ y inside is. (lists.members y).1 (inside, is) in
      omega (arith, no_longer topics (given_topics u xs x need there one no_role) (once topics differ) (λ t h. let a = asked t h in given_listed u xs x need there one no_role t (asks_more c u within x t a.0) a.1), given_few u xs x need there one no_role)

  no_name : (a : Auth) → is_named a ≡ false → length (auth_name a) ≡ 0
  no_name (Named name) e = absurd (let odd : true ≡ false = e in cc odd)
  no_name System e = refl
  no_name Public e = refl

  one_need : (r : Right) (a : Auth) (name : List ℕ) → a ≡ Named name → (n : Need) → IsRightNeed u r a n → n ≡ r.need
  one_need r a name e n sought = subst (λ g. IsRightNeed u r g n) e sought

  named_is : (a : Auth) → is_named a ≡ true → (name : List ℕ) × (a ≡ Named name)
  named_is (Named name) e = (name, refl)
  named_is System e = absurd (let odd : false ≡ true = e in cc odd)
  named_is Public e = absurd (let odd : false ≡ true = e in cc odd)

  held_most : (r : Right) → HasAll (item.Held r) → AsksFor (item.Held r) → (b : Bool) → is_named r.grantor ≡ b → length topics ≤ cond b (4 * length xs + 3) (most_by (length xs) (count_by is_part xs) (count_by leads_on xs))
  held_most r lists asked true e = let name = named_is r.grantor e in given (item.Held r) r.need lists asked (λ n sought. one_need r r.grantor name.0 name.1 n sought) (λ role is. is)
  held_most r lists asked false e = asked_sharply u c (item.Held r) xs lists within topics differ asked (λ none. none) (no_name r.grantor e)

  grantable_most : (r : Right) → HasAll (item.Grantable r) → AsksFor (item.Grantable r) → (b : Bool) → is_named r.grantor ≡ b → length topics ≤ cond b (4 * length xs + 3) (most_by (length xs) (count_by is_part xs) (count_by leads_on xs))
  grantable_most r lists asked true e = let name = named_is r.grantor e in given (item.Grantable r) r.need lists asked (λ n sought. one_need r r.grantor name.0 name.1 n sought) (λ role is. is)
  grantable_most r lists asked false e = asked_sharply u c (item.Grantable r) xs lists within topics differ asked (λ none. none) (no_name r.grantor e)

  role_few : (x : Item) (g : List ℕ) → length (map edges (names_of x xs) ++ map (admins g) (names_of x xs)) + length (flat_map home_topics xs) ≤ 4 * length xs + 3
  role_few x g = omega (arith, of_role g (names_of x xs), names_few x xs, length-at_most home_topics 2 xs at_most_two, all_apart xs)

  pub asked_most : (x : Item) → HasAll x → AsksFor x → length topics ≤ most_topics x xs
  asked_most (item.RoleAuth g) lists asked =
      omega (arith, computed_longer u c (item.RoleAuth g) xs lists within topics differ asked, length-append (flat_map home_topics xs) (map edges (names_of (item.RoleAuth g) xs) ++ map (admins g.role) (names_of (item.RoleAuth g) xs)), role_few (item.RoleAuth g) g.role)
  asked_most (item.RoleAdmin g) lists asked =
      omega (arith, computed_longer u c (item.RoleAdmin g) xs lists within topics differ asked, length-append (flat_map home_topics xs) (map edges (names_of (item.RoleAdmin g) xs) ++ map (admins g.role) (names_of (item.RoleAdmin g) xs)), role_few (item.RoleAdmin g) g.role)
  asked_most (item.Held r) lists asked = held_most r lists asked (is_named r.grantor) refl
  asked_most (item.Grantable r) lists asked = grantable_most r lists asked (is_named r.grantor) refl
  asked_most (item.User n) lists asked = asked_sharply u c (item.User n) xs lists within topics differ asked (λ none. none) refl
  asked_most (item.Role n) lists asked = asked_sharply u c (item.Role n) xs lists within topics differ asked (λ none. none) refl
  asked_most (item.Schema z) lists asked = asked_sharply u c (item.Schema z) xs lists within topics differ asked (λ none. none) refl
  asked_most (item.Table o) lists asked = asked_sharply u c (item.Table o) xs lists within topics differ asked (λ none. none) refl
  asked_most (item.View v) lists asked = asked_sharply u c (item.View v) xs lists within topics differ asked (λ none. none) refl
  asked_most (item.Column k) lists asked = asked_sharply u c (item.Column k) xs lists within topics differ asked (λ none. none) refl
  asked_most (item.Domain d) lists asked = asked_sharply u c (item.Domain d) xs lists within topics differ asked (λ none. none) refl
  asked_most (item.DomainCheck d) lists asked = asked_sharply u c (item.DomainCheck d) xs lists within topics differ asked (λ none. none) refl
  asked_most (item.Key k) lists asked = asked_sharply u c (item.Key k) xs lists within topics differ asked (λ none. none) refl
  asked_most (item.Foreign f) lists asked = asked_sharply u c (item.Foreign f) xs lists within topics differ asked (λ none. none) refl
  asked_most (item.Check k) lists asked = asked_sharply u c (item.Check k) xs lists within topics differ asked (λ none. none) refl
  asked_most (item.Assertion z) lists asked = asked_sharply u c (item.Assertion z) xs lists within topics differ asked (λ none. none) refl
  asked_most (item.Routine z) lists asked = asked_sharply u c (item.Routine z) xs lists within topics differ asked (λ none. none) refl
