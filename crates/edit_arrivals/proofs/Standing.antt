-- By what was found of a part, the keys of suspects, and what their options add to, are those of the new catalogue.
use Rattle.std.proofs.Common.{◌≡◌, ◌⊎◌, inl, inr, Bool, true, List, [], ◌∷◌, sym, subst}
use Rattle.std.specs.Prelude.{◌↔◌}
use Rattle.std.specs.List.{Contains}
use Rattle.std.proofs.lemmas.Bool.{both_ways}
use Rattle.finite_chains.specs.Chains.{IsChain, IsWithin}
use Rattle.finite_chains.proofs.Members.{Contains-nil, Contains-cases}
use Rattle.cat_items.specs.declared.edit.Edit.{Edit}
use Rattle.cat_items.specs.declared.item.Item.{Item}
use Rattle.cat_items.specs.declared.item.Item.TheVariants as item
use Rattle.cat_items.specs.Fit.{IsRight}
use Rattle.cat_items.specs.declared.item.Right.{Right}
use Rattle.cat_items.specs.declared.item.RoleGrant.{RoleGrant}
use Rattle.cat_items.specs.Supported.{Supported, IsHeld, IsRoleAuth}
use Rattle.cat_items.specs.Survivors.{IsSystemRight, IsWithSystem, MayBeSystemRight}
use Rattle.cascade_laws.specs.Asks.{by_option}
use Rattle.cascade_laws.specs.Found.{IsFound}
use Rattle.cascade_laws.specs.Topics.{Topic, IsOptionTopic, IsUnder}
use Rattle.cascade_laws.proofs.Kept.{possible_among}
use Rattle.edit_rules.specs.Chosen.{AreAll, AreChosen}
use Rattle.board_graph.specs.BoardKeys.{IsHelper, IsKeyOf, of_item, of_possible}
use Rattle.board_graph.proofs.Keys.{no_helper}
use Rattle.topic_keys.specs.Lists.{IsKeyWhere}
use Rattle.topic_lists.specs.Sought.{IsTopicOf}
use Rattle.part_topics.specs.Whole.{HasAllFor}
use Rattle.part_topics.proofs.Found.{stands_alike, rights_alike_in, topics_alike_in}
use Rattle.board_steps.specs.Plans.{HasNoHelper}
use Rattle.board_plans.specs.declared.arrivals.Arrival.{Arrival}
use Rattle.board_plans.specs.Planning.{AreArrivals, IsAddedTo, IsArrivalOf}
use Rattle.edit_arrivals.specs.Suspects.{HasSuspects, IsFoundBy}

right_is : (c : List Item) (x : Item) → IsSystemRight c x → IsRight x
right_is c (item.Held r) is = tt
right_is c (item.Grantable r) is = tt
right_is c _ is = absurd is

-- ---- the suspects of what was found

module _ (c edited f part found standing : List Item) (suspect : Item → Bool) (with_f : IsWithSystem edited f) (is_found : IsFound c f suspect part found standing) where
  found_in : IsWithin found f
  found_in x h = is_found.within x (is_found.found_part x h)

  pub found_edited : (y : Item) → Contains found y → (¬ (IsRight y)) → Contains edited y
  found_edited y h other = elim ((with_f.members y).0 (found_in y h)) [ inl is ↦ is | inr right ↦ absurd (other (right_is edited y right)) ]

  known_in : (x : Item) → Contains found x ⊎ IsSystemRight found x → Contains f x
  known_in x (inl h) = found_in x h
  known_in x (inr right) = (with_f.members x).1 (inr (possible_among found edited x found_edited right))

  pub suspects_listed : (suspects : List Item) → AreChosen f (λ x. suspect x ≡ true) suspects → HasSuspects found suspect suspects
  suspects_listed suspects are = record {
    all = λ x known is. (are.members x).1 (known_in x known, is);
    only = λ x h. ((are.members x).0 h).1;
  }

chain_plain : (f chain : List Item) → IsChain (Supported f) f chain → (x : Item) → Contains chain x → IsHelper x → ⊥
chain_plain f [] is x h helper = Contains-nil x h
chain_plain f (y ∷ earlier) is x h helper =
    elim (Contains-cases y earlier x h) [
      | inl e ↦ no_helper f earlier y is.1 (subst IsHelper (sym e) helper)
      | inr before ↦ chain_plain f earlier is.2 x before helper
    ]

pub found_is_plain : (c f part found standing : List Item) (suspect : Item → Bool) → IsFound c f suspect part found standing → HasNoHelper found
found_is_plain c f part found standing suspect is_found x h = let s = is_found.sound x h in chain_plain f s.0 s.1 x s.2

-- ---- keys in what was found and in what stands

-- what an option adds to could be granted where the option could
held_moved : (p q : List Item) (r : Right) (y : Item) → IsHeld r y → (MayBeSystemRight p r → MayBeSystemRight q r) → IsSystemRight p y → IsSystemRight q y
held_moved p q r (item.Held other) e move right = subst (MayBeSystemRight q) (sym e) (move (subst (MayBeSystemRight p) e right))
held_moved p q r _ e move right = absurd e

role_moved : (p q : List Item) (g : RoleGrant) (y : Item) → IsRoleAuth g y → IsSystemRight p y → IsSystemRight q y
role_moved p q g (item.RoleAuth h) e right = absurd right
role_moved p q g _ e right = absurd e

right_moved : (p q : List Item) (x y : Item) (t : Topic) → IsOptionTopic x t → IsUnder t y → (IsSystemRight p x → IsSystemRight q x) → IsSystemRight p y → IsSystemRight q y
right_moved p q (item.Grantable r) y t e under move right = held_moved p q r y (subst (λ t. IsUnder t y) e under) move right
right_moved p q (item.RoleAdmin g) y t e under move right = role_moved p q g y (subst (λ t. IsUnder t y) e under) right
right_moved p q _ y t e under move right = absurd e

key_moved : (p q : List Item) (x k : Item) → Contains p x ↔ Contains q x → (IsSystemRight p x → IsSystemRight q x) → IsKeyOf p x k → IsKeyOf q x k
key_moved p q x k stands right (of_item h e) = of_item (stands.0 h) e
key_moved p q x k stands right (of_possible h none e) = of_possible (right h) (λ there. none (stands.1 there)) e

pub key_known : (c : List Item) (x k : Item) → IsKeyOf c x k → Contains c x ⊎ IsSystemRight c x
key_known c x k (of_item h e) = inl h
key_known c x k (of_possible h none e) = inr h

all_alike : (P Q : Item → Type 0) (items : List Item) → ((x : Item) → P x ↔ Q x) → AreAll P items → AreAll Q items
all_alike P Q items same are = record {
  order = are.order;
  members = λ x. (λ h. (same x).0 ((are.members x).0 h), λ q. (are.members x).1 ((same x).1 q));
}

module _ (c all edited f part found standing : List Item) (edit : Edit) (suspect : Item → Bool) (by : IsFoundBy c all edited f edit suspect part found standing) where
  stands : (x : Item) → suspect x ≡ true → Contains found x ↔ Contains standing x
  stands = stands_alike c f part found standing suspect by.is_found

  rights : (x : Item) → suspect x ≡ true → IsSystemRight found x ↔ IsSystemRight standing x
  rights = rights_alike_in c all edited f part found standing edit suspect by.fit by.with_system by.spread by.is_found by.whole

  pub keys_alike : (x k : Item) → suspect x ≡ true → IsKeyOf found x k ↔ IsKeyOf standing x k
  keys_alike x k is = (
    key_moved found standing x k (stands x is) (rights x is).0,
    key_moved standing found x k ((stands x is).1, (stands x is).0) (rights x is).1,
  )

  standing_edited : (y : Item) → Contains standing y → (¬ (IsRight y)) → Contains edited y
  standing_edited y h other =
      elim ((by.is_found.members y).0 h) [
        | inl here ↦ found_edited c edited f part found standing suspect by.with_system by.is_found y here other
        | inr old ↦ (by.fit.is_edited.members y).1 (inl (old.0, (λ gone. both_ways (suspect y) old.1 (by.spread.target y gone)), (λ gone. both_ways (suspect y) old.1 (by.spread.changed y gone))))
      ]

  -- the part has all that a suspect asks for that stands, or that could be granted
  asked_all : (x : Item) → suspect x ≡ true → Contains standing x ⊎ IsSystemRight standing x → HasAllFor c suspect part x
  asked_all x is (inl h) =
      let here = (stands x is).1 h in
      elim (by.is_found.asked x (by.is_found.found_part x here) is) [
        | inl never ↦ absurd (never (by.is_found.sound x here))
        | inr all_for ↦ all_for
      ]
  asked_all x is (inr right) = by.whole x (by.is_found.suspects x ((by.with_system.members x).1 (inr (possible_among standing edited x standing_edited right))) is) is

  module _ (x : Item) (is : suspect x ≡ true) (known : Contains standing x ⊎ IsSystemRight standing x) where
    added_found : (y : Item) (t : Topic) → IsOptionTopic x t → IsUnder t y → Contains standing y → Contains found y
    added_found y t option under h =
        elim ((by.is_found.members y).0 h) [
          | inl here ↦ here
          | inr old ↦ by.is_found.clear y (asked_all x is known y t old.0 old.1 (by_option option) under) old.1 old.0
        ]

    added_stands : (y : Item) (t : Topic) → IsOptionTopic x t → IsUnder t y → Contains found y ↔ Contains standing y
    added_stands y t option under = (λ h. (by.is_found.members y).1 (inl h), added_found y t option under)

    pub added_alike : (k : Item) → IsAddedTo found x k ↔ IsAddedTo standing x k
    added_alike k = (
      λ a. (a.0, a.1, key_moved found standing a.0 k (added_stands a.0 a.1 a.3 a.4) (right_moved found standing x a.0 a.1 a.3 a.4 (rights x is).0) a.2, a.3, a.4),
      λ a. let both = added_stands a.0 a.1 a.3 a.4 in (a.0, a.1, key_moved standing found a.0 k (both.1, both.0) (right_moved standing found x a.0 a.1 a.3 a.4 (rights x is).1) a.2, a.3, a.4),
    )

    topic_keys_alike : (k : Item) → IsKeyWhere (IsTopicOf found x) k ↔ IsKeyWhere (IsTopicOf standing x) k
    topic_keys_alike k =
        let topics = topics_alike_in c all edited f part found standing edit suspect by.fit by.with_system by.spread by.is_found by.whole x is known in (
          λ h. (h.0, ((topics h.0).0 h.1.0, h.1.1), h.2),
          λ h. (h.0, ((topics h.0).1 h.1.0, h.1.1), h.2),
        )

    arrival_alike : (a : Arrival) → IsArrivalOf found x a → IsArrivalOf standing x a
    arrival_alike a are = record {
      key = (keys_alike x a.key is).0 are.key;
      depends_on = all_alike (IsKeyWhere (IsTopicOf found x)) (IsKeyWhere (IsTopicOf standing x)) a.depends_on topic_keys_alike are.depends_on;
      stands_under = are.stands_under;
      adds_to = λ k. (λ e. (added_alike k).0 ((are.adds_to k).0 e), λ added. (are.adds_to k).1 ((added_alike k).1 added));
    }

  pub arrivals_alike : (arrivals : List Arrival) → AreArrivals found suspect arrivals → AreArrivals standing suspect arrivals
  arrivals_alike arrivals are = record {
    all = λ k of. are.all k (of.0, (keys_alike of.0 k of.2).1 of.1, of.2);
    only = λ a h. let of = are.only a h in (of.0, of.1, arrival_alike of.0 of.1 (key_known standing of.0 a.key ((keys_alike of.0 a.key of.1).0 of.2.key)) a of.2);
    once = are.once;
  }
