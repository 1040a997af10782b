-- The topics that an item asks for are among computed ones, and these are few.
use Rattle.std.proofs.Common.{◌≡◌, ℕ, ◌+◌, ◌≤◌, List, ◌++◌, length, ap, sym, refl, subst, arith}
use Rattle.std.specs.Prelude.{◌≢◌, ◌*◌, map}
use Rattle.std.specs.List.{AllPairs, Contains, count_by, flat_map}
use Rattle.std.proofs.lemmas.List.{length-append, length-map}
use Rattle.std.proofs.lemmas.List.Elements.{Contains-append_left, Contains-append_right}
use Rattle.std.proofs.Math.Nat.{mul-le-mul_left}
use Rattle.finite_chains.specs.Chains.{IsWithin}
use Rattle.cat_items.specs.declared.need.Auth.{Auth}
use Rattle.cat_items.specs.declared.need.Auth.TheVariants.{Named}
use Rattle.cat_items.specs.declared.need.Need.{Need}
use Rattle.cat_items.specs.declared.item.Item.{Item}
use Rattle.cat_items.specs.declared.item.Item.TheVariants as item
use Rattle.cat_items.specs.Bound.{HasRelevant, Lists, square}
use Rattle.cat_items.specs.Reach.{Reaches}
use Rattle.cat_items.specs.Relevant.{Relevant, IsActor, IsNeedOf}
use Rattle.cat_items.specs.Relevant as relevant
use Rattle.cascade_laws.specs.Topics.{Topic, IsUnder, IsGrantOf, supply, edges, admins, DependsOn}
use Rattle.cascade_laws.specs.Asks.{Asks, by_name, by_far, by_option, of_need, of_supply, of_edges, of_admins}
use Rattle.cascade_laws.specs.Concerns.{IsRoleGrant}
use Rattle.look_up_bound.specs.PossibleRights.{leads_on}
use Rattle.look_up_bound.specs.TopicParts.{HasParts}
use Rattle.look_up_bound.proofs.AskedRelevant.{IsOfName, near_is_of_name, has_under, of_name, of_far, of_option, of_need_name, name_relevant, far_relevant, option_relevant, need_relevant}
use Rattle.plain_needs.proofs.FlatMembers.{Contains-flat_map}
use Rattle.look_up_bound.proofs.Counting.{once, no_longer, length-each, length-at_most, Contains-map}
use Rattle.look_up_bound.proofs.MoreAsked.{asks_more, depends_asks}
use Rattle.look_up_bound.proofs.Parts.{home_topics, at_most_two, under_home, needs_on, need_listed, reached_name, is_part, length-needs_on, length-reached_name, all_apart}
use Rattle.look_up_bound.proofs.Reached.{grantor_name, names_of, grantees_of, length-names_of, name_there, grantee_there, system_needs_nothing}
use Rattle.look_up_bound.proofs.Squares.{needs_within, roles_within}

abbrev supplies : List Need → List Auth → List Topic
supplies needs grantees = flat_map (λ need. map (supply need) grantees) needs

-- the topics that an item may ask for beside names: a role grant asks for role authorizations and admin options, what has needs for rights and role authorizations
abbrev pub others : Item → List (List ℕ) → List Need → List Auth → List Topic
others (item.RoleAuth g) names needs grantees = map edges names ++ map (admins g.role) names
others (item.RoleAdmin g) names needs grantees = map edges names ++ map (admins g.role) names
others x names needs grantees = supplies needs grantees ++ map edges names

has_supply : (x : Item) (names : List (List ℕ)) (needs : List Need) (grantees : List Auth) (u : List Item) (need : Need) (t : Topic) → IsNeedOf u x need → Contains (supplies needs grantees) t → Contains (others x names needs grantees) t
has_supply (item.RoleAuth g) names needs grantees u need t sought h = absurd sought
has_supply (item.RoleAdmin g) names needs grantees u need t sought h = absurd sought
has_supply _ names needs grantees u need t sought h = Contains-append_left (supplies needs grantees) (map edges names) t h

has_edge : (x : Item) (names : List (List ℕ)) (needs : List Need) (grantees : List Auth) (t : Topic) → Contains (map edges names) t → Contains (others x names needs grantees) t
has_edge (item.RoleAuth g) names needs grantees t h = Contains-append_left (map edges names) (map (admins g.role) names) t h
has_edge (item.RoleAdmin g) names needs grantees t h = Contains-append_left (map edges names) (map (admins g.role) names) t h
has_edge _ names needs grantees t h = Contains-append_right (supplies needs grantees) (map edges names) t h

has_admin : (x : Item) (names : List (List ℕ)) (needs : List Need) (grantees : List Auth) (role name : List ℕ) → IsGrantOf role x → Contains names name → Contains (others x names needs grantees) (admins role name)
has_admin (item.RoleAuth g) names needs grantees role name e h =
    subst (λ r. Contains (others (item.RoleAuth g) names needs grantees) (admins r name)) e (Contains-append_right (map edges names) (map (admins g.role) names) (admins g.role name) (Contains-map (admins g.role) names name h))
has_admin (item.RoleAdmin g) names needs grantees role name e h =
    subst (λ r. Contains (others (item.RoleAdmin g) names needs grantees) (admins r name)) e (Contains-append_right (map edges names) (map (admins g.role) names) (admins g.role name) (Contains-map (admins g.role) names name h))
has_admin _ names needs grantees role name e h = absurd e

abbrev pub others_of : Item → List Item → List Topic
others_of x xs = others x (names_of x xs) (flat_map needs_on xs) (grantees_of x xs)

abbrev pub topics_of : Item → List Item → List Topic
topics_of x xs = flat_map home_topics xs ++ others_of x xs

module _ (u xs : List Item) (x : Item) (there : (y : Item) → Contains u y → Relevant u y x → Contains xs y) where
  of_a_name : (t : Topic) → IsOfName t → ((y : Item) → IsUnder t y → Relevant u y x) → HasParts u t → Contains (topics_of x xs) t
  of_a_name t like is_relevant parts =
      let h = has_under u t like parts in
      Contains-append_left (flat_map home_topics xs) (others_of x xs) t (Contains-flat_map home_topics xs h.0 t (there h.0 h.1 (is_relevant h.0 h.2)) (under_home t h.0 h.2))

  of_others : (t : Topic) → Contains (others_of x xs) t → Contains (topics_of x xs) t
  of_others t h = Contains-append_right (flat_map home_topics xs) (others_of x xs) t h

  supply_there : (need : Need) (a g : Auth) → IsNeedOf u x need → IsActor u x a → Reaches u a g → HasParts u (supply need g) → Contains (topics_of x xs) (supply need g)
  supply_there need a g sought acts way parts =
      let listed = need_listed u xs need (λ y inside is. there y inside (relevant.on_need need sought is)) parts in
      let each = Contains-map (supply need) (grantees_of x xs) g (grantee_there u xs x there a g (λ e. system_needs_nothing u xs x need sought (subst (IsActor u x) e acts)) acts way) in
      let all = Contains-flat_map (λ n. map (supply n) (grantees_of x xs)) (flat_map needs_on xs) need (supply need g) listed each in
      of_others (supply need g) (has_supply x (names_of x xs) (flat_map needs_on xs) (grantees_of x xs) u need (supply need g) sought all)

  edge_there : (a : Auth) (name : List ℕ) → IsActor u x a → Reaches u a (Named name) → Contains (topics_of x xs) (edges name)
  edge_there a name acts way =
      of_others (edges name) (has_edge x (names_of x xs) (flat_map needs_on xs) (grantees_of x xs) (edges name) (Contains-map edges (names_of x xs) name (name_there u xs x there a name acts way)))

  admin_there : (a : Auth) (role name : List ℕ) → IsGrantOf role x → IsActor u x a → Reaches u a (Named name) → Contains (topics_of x xs) (admins role name)
  admin_there a role name grants acts way =
      of_others (admins role name) (has_admin x (names_of x xs) (flat_map needs_on xs) (grantees_of x xs) role name grants (name_there u xs x there a name acts way))

  listed : (t : Topic) → Asks u x t → HasParts u t → Contains (topics_of x xs) t
  listed t (by_name e) parts = of_a_name t (near_is_of_name t (of_name x t e)) (λ y is. name_relevant u x y t is e) parts
  listed t (by_far e) parts = of_a_name t (near_is_of_name t (of_far x t e)) (λ y is. far_relevant u x y t is e) parts
  listed t (by_option e) parts = of_a_name t (of_option x t e) (λ y is. option_relevant u x y t is e) parts
  listed t (of_need need sought e) parts = of_a_name t (near_is_of_name t (of_need_name need t e)) (λ y is. need_relevant u x y t is need sought e) parts
  listed t (of_supply need a g sought acts way e) parts = subst (Contains (topics_of x xs)) (sym e) (supply_there need a g sought acts way (subst (HasParts u) e parts))
  listed t (of_edges a name seeks way e) parts = subst (Contains (topics_of x xs)) (sym e) (edge_there a name seeks.0 way)
  listed t (of_admins a role name grants acts way e) parts = subst (Contains (topics_of x xs)) (sym e) (admin_there a role name grants acts way)

-- ---- how many these are

length-supplies : (needs : List Need) (grantees : List Auth) → length (supplies needs grantees) ≡ length needs * length grantees
length-supplies needs grantees = length-each (λ need. map (supply need) grantees) (length grantees) needs (λ need. length-map grantees (supply need))

pub of_role : (g : List ℕ) (names : List (List ℕ)) → length (map edges names ++ map (admins g) names) ≡ length names + length names
of_role g names = omega (arith, length-append (map edges names) (map (admins g) names), length-map names edges, length-map names (admins g))

module _ (x : Item) (xs : List Item) where
  product : (leads : ℕ) → length (names_of x xs) ≤ leads → length (supplies (flat_map needs_on xs) (grantees_of x xs)) ≤ 7 * count_by is_part xs * (leads + 1)
  product leads few =
      let rights = length-supplies (flat_map needs_on xs) (grantees_of x xs) in
      let named : length (grantees_of x xs) ≤ leads + 1 = omega (arith, length-map (names_of x xs) Named, few) in
      let less = mul-le-mul_left (7 * count_by is_part xs) named in
      let same : length (flat_map needs_on xs) * length (grantees_of x xs) ≡ 7 * count_by is_part xs * length (grantees_of x xs) = ap (λ n. n * length (grantees_of x xs)) (length-needs_on xs) in
      omega (arith, rights, less, same)

  of_needs : (leads : ℕ) → length (names_of x xs) ≤ leads
      → length (supplies (flat_map needs_on xs) (grantees_of x xs) ++ map edges (names_of x xs)) + length (flat_map home_topics xs) ≤ 2 * length xs + (7 * count_by is_part xs * (leads + 1) + leads)
  of_needs leads few =
      let all = length-append (supplies (flat_map needs_on xs) (grantees_of x xs)) (map edges (names_of x xs)) in
      omega (arith, all, product leads few, few, length-map (names_of x xs) edges, length-at_most home_topics 2 xs at_most_two)

  pub names_few : length (names_of x xs) ≤ count_by leads_on xs + 1
  names_few = omega (arith, length-names_of x xs, length-reached_name xs)

  within_square : length (supplies (flat_map needs_on xs) (grantees_of x xs) ++ map edges (names_of x xs)) + length (flat_map home_topics xs) + 3 ≤ 5 * square (length xs)
  within_square = omega (arith, of_needs (count_by leads_on xs + 1) names_few, needs_within (length xs) (count_by is_part xs) (count_by leads_on xs) (omega (arith, all_apart xs)))

  of_roles : (role : List ℕ) → length (map edges (names_of x xs) ++ map (admins role) (names_of x xs)) + length (flat_map home_topics xs) + 3 ≤ 5 * square (length xs)
  of_roles role =
      omega (arith, of_role role (names_of x xs), names_few, length-at_most home_topics 2 xs at_most_two, roles_within (length xs) (count_by leads_on xs) (omega (arith, all_apart xs)))

others_few : (x z : Item) (xs : List Item) → length (others z (names_of x xs) (flat_map needs_on xs) (grantees_of x xs)) + length (flat_map home_topics xs) + 3 ≤ 5 * square (length xs)
others_few x (item.RoleAuth g) xs = of_roles x xs g.role
others_few x (item.RoleAdmin g) xs = of_roles x xs g.role
others_few x _ xs = within_square x xs

topics_few : (x : Item) (xs : List Item) → length (topics_of x xs) + 3 ≤ 5 * square (length xs)
topics_few x xs = omega (arith, length-append (flat_map home_topics xs) (others_of x xs), others_few x x xs)

module _ (u c : List Item) (x : Item) (relevant_items : List Item) (lists : Lists (λ y. Contains u y × Relevant u y x) relevant_items) (within : IsWithin c u)
    (topics : List Topic) (differ : AllPairs (λ s t. s ≢ t) topics) (asked : (t : Topic) → Contains topics t → Asks c x t × HasParts u t) where
  pub computed_longer : length topics ≤ length (topics_of x relevant_items)
  computed_longer =
      let there : (y : Item) → Contains u y → Relevant u y x → Contains relevant_items y = λ y inside is. (lists.members y).1 (inside, is) in
      no_longer topics (topics_of x relevant_items) (once topics differ) (λ t is. let a = asked t is in listed u relevant_items x there t (asks_more c u within x t a.0) a.1)

pub asked_few : (u c : List Item) (x : Item) (n : ℕ) (topics : List Topic) → IsWithin c u → HasRelevant u x n → AllPairs (λ s t. s ≢ t) topics → ((t : Topic) → Contains topics t → Asks c x t × HasParts u t) → length topics + 3 ≤ 5 * square n
asked_few u c x n topics within h differ asked =
    subst (λ m. length topics + 3 ≤ 5 * square m) h.2 (omega (arith, computed_longer u c x h.0 h.1 within topics differ asked, topics_few x h.0))

pub depended_few : (u c : List Item) (x : Item) (n : ℕ) (topics : List Topic) → IsWithin c u → HasRelevant u x n → AllPairs (λ s t. s ≢ t) topics → ((t : Topic) → Contains topics t → DependsOn c x t × HasParts u t) → length topics + 3 ≤ 5 * square n
depended_few u c x n topics within h differ depends = asked_few u c x n topics within h differ (λ t is. let d = depends t is in (depends_asks c x t d.0, d.1))

-- what is granted by nobody: the names that it reaches begin with the owner of its schema
pub asked_sharply : (u c : List Item) (x : Item) (xs : List Item) → Lists (λ y. Contains u y × Relevant u y x) xs → IsWithin c u → (topics : List Topic) → AllPairs (λ s t. s ≢ t) topics → ((t : Topic) → Contains topics t → Asks c x t × HasParts u t)
    → (¬ (IsRoleGrant x)) → length (grantor_name x) ≡ 0 → length topics ≤ 2 * length xs + (7 * count_by is_part xs * (count_by leads_on xs + 1) + count_by leads_on xs)
asked_sharply u c x xs lists within topics differ asked no_grant no_grantor =
    let few : length (names_of x xs) ≤ count_by leads_on xs = omega (arith, length-append (grantor_name x) (flat_map reached_name xs), no_grantor, length-reached_name xs) in
    omega (arith, computed_longer u c x xs lists within topics differ asked, length-append (flat_map home_topics xs) (others_of x xs), of_needs x xs (count_by leads_on xs) few, no_role x no_grant)
  where
    no_role : (z : Item) → (¬ (IsRoleGrant z)) → length (others z (names_of x xs) (flat_map needs_on xs) (grantees_of x xs)) ≡ length (supplies (flat_map needs_on xs) (grantees_of x xs) ++ map edges (names_of x xs))
    no_role (item.RoleAuth g) no_grant = absurd (no_grant tt)
    no_role (item.RoleAdmin g) no_grant = absurd (no_grant tt)
    no_role _ no_grant = refl
