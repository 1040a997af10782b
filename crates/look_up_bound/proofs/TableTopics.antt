-- The topics that a table asks for, whether or not their parts stand.
use Rattle.std.proofs.Common.{inl, inr, ℕ, ◌+◌, ◌≤◌, List, [], ◌∷◌, ◌++◌, length, Option, Some, None, sym, subst, arith}
use Rattle.std.specs.Prelude.{◌≢◌, ◌*◌, map}
use Rattle.std.specs.List.{AllPairs, Contains, count_by, flat_map}
use Rattle.std.proofs.lemmas.List.{length-append, length-map}
use Rattle.std.proofs.lemmas.List.Elements.{Contains-append_left, Contains-append_right}
use Rattle.finite_chains.specs.Chains.{IsWithin}
use Rattle.finite_chains.proofs.Members.{Contains-tail}
use Rattle.sql_names.specs.declared.object.Object.{Object}
use Rattle.cat_items.specs.declared.need.Auth.{Auth}
use Rattle.cat_items.specs.declared.need.Auth.TheVariants.{Named}
use Rattle.cat_items.specs.declared.need.Need.{Need}
use Rattle.cat_items.specs.declared.item.Item.{Item}
use Rattle.cat_items.specs.declared.item.Item.TheVariants as item
use Rattle.cat_items.specs.Bound.{HasRelevant, Lists, square}
use Rattle.cat_items.specs.Reach.{Has}
use Rattle.cat_items.specs.Rights.{usage}
use Rattle.cat_items.specs.Relevant.{Relevant, IsActor, IsUsageOf, HasUsage, named}
use Rattle.cascade_laws.specs.Topics.{Topic}
use Rattle.cascade_laws.specs.Topics as on
use Rattle.cascade_laws.specs.Asks.{Asks, by_name, by_far, by_option, of_need, of_supply, of_edges, of_admins}
use Rattle.plain_needs.proofs.FlatMembers.{Contains-flat_map}
use Rattle.look_up_bound.specs.PossibleRights.{leads_on}
use Rattle.look_up_bound.proofs.Counting.{once, no_longer, at_head, at_second, length-at_most, length-each, Contains-map}
use Rattle.look_up_bound.proofs.MoreAsked.{asks_more}
use Rattle.look_up_bound.proofs.Parts.{reached_name, is_part, length-reached_name, all_apart, one_if, count-cons}
use Rattle.look_up_bound.proofs.Reached.{names_of, grantees_of, name_there, grantee_there, system_needs_nothing}
use Rattle.look_up_bound.proofs.RightTopics.{need_topics, two_topics, need_listed}
use Rattle.look_up_bound.proofs.Squares.{most_by, table_most, table_within}

abbrev domain_needs : Option Object → List Need
domain_needs None = []
domain_needs (Some d) = usage d ∷ []

-- USAGE on the domain of a column
abbrev usage_needs : Item → List Need
usage_needs (item.Column k) = domain_needs k.domain
usage_needs x = []

one_domain : (d : Option Object) → length (domain_needs d) ≤ 1
one_domain None = omega arith
one_domain (Some d) = omega arith

one_usage : (y : Item) → length (usage_needs y) ≤ one_if (is_part y)
one_usage (item.Column k) = one_domain k.domain
one_usage _ = omega arith

length-usage_needs : (xs : List Item) → length (flat_map usage_needs xs) ≤ count_by is_part xs
length-usage_needs [] = omega arith
length-usage_needs (y ∷ xs) = omega (arith, length-append (usage_needs y) (flat_map usage_needs xs), one_usage y, length-usage_needs xs, count-cons is_part y xs)

domain_listed : (d : Option Object) (need : Need) → IsUsageOf d need → Contains (domain_needs d) need
domain_listed None need is = absurd is
domain_listed (Some d) need is = at_head (usage d) need [] (sym is)

abbrev table_topics : Object → List Need → List (List ℕ) → List Auth → List Topic
table_topics o needs names grantees = on.schema o.schema ∷ on.columns o ∷ (flat_map need_topics needs ++ (flat_map (λ n. map (on.supply n) grantees) needs ++ map on.edges names))

length-table_topics : (o : Object) (needs : List Need) (names : List (List ℕ)) (grantees : List Auth) → length (table_topics o needs names grantees) ≤ 2 + length needs * 2 + length needs * length grantees + length names
length-table_topics o needs names grantees =
    omega (
      arith,
      length-append (flat_map need_topics needs) (flat_map (λ n. map (on.supply n) grantees) needs ++ map on.edges names),
      length-append (flat_map (λ n. map (on.supply n) grantees) needs) (map on.edges names),
      length-map names on.edges,
      length-at_most need_topics 2 needs two_topics,
      length-each (λ n. map (on.supply n) grantees) (length grantees) needs (λ n. length-map grantees (on.supply n)),
    )

module _ (u : List Item) (o : Object) (xs : List Item) (there : (y : Item) → Contains u y → Relevant u y (item.Table o) → Contains xs y) where
  abbrev needs : List Need
  needs = flat_map usage_needs xs

  abbrev names : List (List ℕ)
  names = names_of (item.Table o) xs

  abbrev grantees : List Auth
  grantees = grantees_of (item.Table o) xs

  abbrev rights : List Topic
  rights = flat_map (λ n. map (on.supply n) grantees) needs

  abbrev roles : List Topic
  roles = map on.edges names

  later : (t : Topic) → Contains (flat_map need_topics needs ++ (rights ++ roles)) t → Contains (table_topics o needs names grantees) t
  later t h = Contains-tail (on.schema o.schema) (on.columns o ∷ (flat_map need_topics needs ++ (rights ++ roles))) t (Contains-tail (on.columns o) (flat_map need_topics needs ++ (rights ++ roles)) t h)

  last : (t : Topic) → Contains (rights ++ roles) t → Contains (table_topics o needs names grantees) t
  last t h = later t (Contains-append_right (flat_map need_topics needs) (rights ++ roles) t h)

  usage_listed : (need : Need) → Has u (HasUsage o need) → Contains needs need
  usage_listed need h = by h.0 h.1 h.2
    where
      by : (y : Item) → Contains u y → HasUsage o need y → Contains needs need
      by (item.Column k) inside is = Contains-flat_map usage_needs xs (item.Column k) need (there (item.Column k) inside (named (inr is.0))) (domain_listed k.domain need is.1)
      by _ inside is = absurd is

  listed : (t : Topic) → Asks u (item.Table o) t → Contains (table_topics o needs names grantees) t
  listed t (by_name (inl e)) = at_head (on.schema o.schema) t (on.columns o ∷ (flat_map need_topics needs ++ (rights ++ roles))) (sym e)
  listed t (by_name (inr e)) = at_second (on.schema o.schema) (on.columns o) t (flat_map need_topics needs ++ (rights ++ roles)) (sym e)
  listed t (by_far e) = absurd e
  listed t (by_option e) = absurd e
  listed t (of_need need sought e) = later t (Contains-append_left (flat_map need_topics needs) (rights ++ roles) t (Contains-flat_map need_topics needs need t (usage_listed need sought) (need_listed need t e)))
  listed t (of_supply need a g sought acts way e) =
      let grantee = grantee_there u xs (item.Table o) there a g (λ s. system_needs_nothing u xs (item.Table o) need sought (subst (IsActor u (item.Table o)) s acts)) acts way in
      let here = Contains-flat_map (λ n. map (on.supply n) grantees) needs need (on.supply need g) (usage_listed need sought) (Contains-map (on.supply need) grantees g grantee) in
      subst (Contains (table_topics o needs names grantees)) (sym e) (last (on.supply need g) (Contains-append_left rights roles (on.supply need g) here))
  listed t (of_edges a name seeks way e) =
      let here = Contains-map on.edges names name (name_there u xs (item.Table o) there a name seeks.0 way) in
      subst (Contains (table_topics o needs names grantees)) (sym e) (last (on.edges name) (Contains-append_right rights roles (on.edges name) here))
  listed t (of_admins a role name grants acts way e) = absurd grants

pub table_asks_few : (u c : List Item) (o : Object) (n : ℕ) (topics : List Topic) → IsWithin c u → HasRelevant u (item.Table o) n → AllPairs (λ s t. s ≢ t) topics → ((t : Topic) → Contains topics t → Asks c (item.Table o) t) → length topics + 3 ≤ 5 * square n
table_asks_few u c o n topics within h differ asked =
    let xs = h.0 in
    let there : (y : Item) → Contains u y → Relevant u y (item.Table o) → Contains xs y = λ y inside is. (h.1.members y).1 (inside, is) in
    let all = no_longer topics (table_topics o (flat_map usage_needs xs) (names_of (item.Table o) xs) (grantees_of (item.Table o) xs)) (once topics differ) (λ t is. listed u o xs there t (asks_more c u within (item.Table o) t (asked t is))) in
    let named : length (names_of (item.Table o) xs) ≤ count_by leads_on xs = omega (arith, length-append [] (flat_map reached_name xs), length-reached_name xs) in
    subst (λ m. length topics + 3 ≤ 5 * square m) h.2
    (table_within (length topics) (length (flat_map usage_needs xs)) (length (grantees_of (item.Table o) xs)) (length (names_of (item.Table o) xs)) (count_by is_part xs) (count_by leads_on xs) (length xs)
    (omega (arith, all, length-table_topics o (flat_map usage_needs xs) (names_of (item.Table o) xs) (grantees_of (item.Table o) xs))) (length-usage_needs xs) (omega (arith, length-map (names_of (item.Table o) xs) Named)) named (omega (arith, all_apart xs)))

-- and two more at most than its parts, schemas and role authorizations tell
pub table_asks_most : (u c : List Item) (o : Object) (xs : List Item) (topics : List Topic) → IsWithin c u → Lists (λ y. Contains u y × Relevant u y (item.Table o)) xs → AllPairs (λ s t. s ≢ t) topics → ((t : Topic) → Contains topics t → Asks c (item.Table o) t)
    → length topics ≤ most_by (length xs) (count_by is_part xs) (count_by leads_on xs) + 2
table_asks_most u c o xs topics within lists differ asked =
    let there : (y : Item) → Contains u y → Relevant u y (item.Table o) → Contains xs y = λ y inside is. (lists.members y).1 (inside, is) in
    let all = no_longer topics (table_topics o (flat_map usage_needs xs) (names_of (item.Table o) xs) (grantees_of (item.Table o) xs)) (once topics differ) (λ t is. listed u o xs there t (asks_more c u within (item.Table o) t (asked t is))) in
    let named : length (names_of (item.Table o) xs) ≤ count_by leads_on xs = omega (arith, length-append [] (flat_map reached_name xs), length-reached_name xs) in
    table_most (length topics) (length (flat_map usage_needs xs)) (length (grantees_of (item.Table o) xs)) (length (names_of (item.Table o) xs)) (count_by is_part xs) (count_by leads_on xs) (length xs)
    (omega (arith, all, length-table_topics o (flat_map usage_needs xs) (names_of (item.Table o) xs) (grantees_of (item.Table o) xs))) (length-usage_needs xs) (omega (arith, length-map (names_of (item.Table o) xs) Named)) named (omega (arith, all_apart xs))
