-- The links that arrivals want: all links of the suspects, each once.
use Rattle.std.proofs.Common.{◌≡◌, ◌⊎◌, inl, inr, ◌∙◌, ap, sym, refl, subst, true, false, true≢false, cond, get_or, Bool, List, [], ◌++◌, map, Option, Some, None}
use Rattle.std.specs.List.{Contains, flat_map}
use Rattle.std.specs.Option.{option_to_list}
use Rattle.std.proofs.lemmas.Bool.{cases_Bool}
use Rattle.std.proofs.lemmas.List.Elements.{Contains-append_cases, Contains-append_left, Contains-append_right}
use Rattle.finite_chains.proofs.Members.{Contains-cases, Contains-head, Contains-nil}
use Rattle.cat_items.specs.declared.item.Item.{Item}
use Rattle.cat_items.specs.Catalogues.{IsInOrder}
use Rattle.cat_items.proofs.KeyLemmas.{same_key}
use Rattle.cascade_laws.specs.Topics.{Topic, DependsOn, IsUnder}
use Rattle.board_graph.specs.BoardKeys.{IsKeyOf, topic_key}
use Rattle.board_graph.specs.Boards.{IsLink, IsOwnTopic, adds, depends, stands}
use Rattle.board_steps.specs.Plans.{HasNoHelper, IsOfSuspect, IsOnSuspect}
use Rattle.board_steps.proofs.Apart.{one_item}
use Rattle.board_plans.specs.declared.arrivals.Arrival.{Arrival}
use Rattle.board_plans.specs.Arrivals.{links_by}
use Rattle.board_plans.specs.Ends.{IsEndAmong}
use Rattle.key_tests.specs.Tests.{is_topic}
use Rattle.board_plans.specs.Planning.{AreArrivals, IsAddedTo, IsArrivalOf}
use Rattle.board_plans.proofs.Members.{Apart, apart_append, apart_flat, apart_map, apart_of_pairs, flat_has, map_has, of_flat, of_map, pairs_map}
use Rattle.key_tests.proofs.TopicKeys.{item_is_none, topic_is}

-- ---- the links of one arrival

of_option : (o : Option Item) (x : Item) → Contains (option_to_list o) x → o ≡ Some x
of_option None x h = absurd (Contains-nil x h)
of_option (Some y) x h = elim (Contains-cases y [] x h) [ inl e ↦ ap (λ (z : Item). Some z) e | inr none ↦ absurd (Contains-nil x none) ]

abbrev pub IsTo : Arrival → Item × Item → Type 0
IsTo a l = (k : Item) × Contains a.depends_on k × ((a.key, k) ≡ l)

abbrev pub IsFrom : Arrival → Item × Item → Type 0
IsFrom a l = (k : Item) × Contains a.stands_under k × ((k, a.key) ≡ l)

abbrev pub IsAdding : Arrival → Item × Item → Type 0
IsAdding a l = (k : Item) × (a.adds_to ≡ Some k) × ((a.key, k) ≡ l)

to : Arrival → List (Item × Item)
to a = map (λ other. (a.key, other)) a.depends_on

from : Arrival → List (Item × Item)
from a = map (λ other. (other, a.key)) a.stands_under

adding : Arrival → List (Item × Item)
adding a = map (λ other. (a.key, other)) (option_to_list a.adds_to)

is_to : (a : Arrival) (l : Item × Item) → Contains (to a) l → IsTo a l
unfolding to
is_to a l h = of_map (λ other. (a.key, other)) a.depends_on l h

is_from : (a : Arrival) (l : Item × Item) → Contains (from a) l → IsFrom a l
unfolding from
is_from a l h = of_map (λ other. (other, a.key)) a.stands_under l h

is_adding : (a : Arrival) (l : Item × Item) → Contains (adding a) l → IsAdding a l
unfolding adding
is_adding a l h = let r = of_map (λ other. (a.key, other)) (option_to_list a.adds_to) l h in (r.0, of_option a.adds_to r.0 r.1, r.2)

links_are : (a : Arrival) → links_by a ≡ (to a ++ from a) ++ adding a
unfolding to from adding
links_are a = refl

of_links : (a : Arrival) (l : Item × Item) → Contains (links_by a) l → IsTo a l ⊎ (IsFrom a l ⊎ IsAdding a l)
of_links a l h =
    elim (Contains-append_cases (to a ++ from a) (adding a) l (subst (λ (ls : List (Item × Item)). Contains ls l) (links_are a) h)) [
      | inl topics ↦ (elim (Contains-append_cases (to a) (from a) l topics) [ inl one ↦ inl (is_to a l one) | inr other ↦ inr (inl (is_from a l other)) ])
      | inr option ↦ inr (inr (is_adding a l option))
    ]

has_to : (a : Arrival) (k : Item) → Contains a.depends_on k → Contains (links_by a) (a.key, k)
unfolding to
has_to a k h =
    subst (λ (ls : List (Item × Item)). Contains ls (a.key, k)) (sym (links_are a))
    (Contains-append_left (to a ++ from a) (adding a) (a.key, k) (Contains-append_left (to a) (from a) (a.key, k) (map_has (λ other. (a.key, other)) a.depends_on k h)))

has_from : (a : Arrival) (k : Item) → Contains a.stands_under k → Contains (links_by a) (k, a.key)
unfolding from
has_from a k h =
    subst (λ (ls : List (Item × Item)). Contains ls (k, a.key)) (sym (links_are a))
    (Contains-append_left (to a ++ from a) (adding a) (k, a.key) (Contains-append_right (to a) (from a) (k, a.key) (map_has (λ other. (other, a.key)) a.stands_under k h)))

has_adding : (a : Arrival) (k : Item) → a.adds_to ≡ Some k → Contains (links_by a) (a.key, k)
unfolding adding
has_adding a k e =
    subst (λ (ls : List (Item × Item)). Contains ls (a.key, k)) (sym (links_are a))
    (Contains-append_right (to a ++ from a) (adding a) (a.key, k)
    (map_has (λ other. (a.key, other)) (option_to_list a.adds_to) k (subst (λ (o : Option Item). Contains (option_to_list o) k) (sym e) (Contains-head k []))))

in_order_apart : (xs : List Item) → IsInOrder xs → Apart xs
in_order_apart xs order = apart_of_pairs xs (λ i j d before below e. let less = order i j d before below in let same = same_key (get_or xs i d) in cc)

option_apart : (k : Item) (o : Option Item) → Apart {X = Item × Item} (map (λ other. (k, other)) (option_to_list o))
option_apart k None = tt
option_apart k (Some other) = (λ h. Contains-nil (k, other) h, tt)

-- ---- the links of all

module _ (new : List Item) (none : HasNoHelper new) (suspect : Item → Bool) (arrivals : List Arrival) (are : AreArrivals new suspect arrivals) where
  abbrev pub IsTopicOfSuspect : Item → Type 0
  IsTopicOfSuspect k = (t : Topic) × IsOnSuspect new suspect t × (k ≡ topic_key t)

  abbrev pub IsOfNoSuspect : Item → Type 0
  IsOfNoSuspect k = (y : Item) × IsKeyOf new y k × (suspect y ≡ false)

  -- the key of a suspect, of a topic that one goes by, or of what is no suspect
  abbrev pub IsWantedKey : Item → Type 0
  IsWantedKey k = IsOfSuspect new suspect k ⊎ (IsTopicOfSuspect k ⊎ IsOfNoSuspect k)

  module _ (a : Arrival) (x : Item) (is : suspect x ≡ true) (of : IsArrivalOf new x a) where
    own : IsOfSuspect new suspect a.key
    own = (x, of.key, is)

    topic_to : (k : Item) → Contains a.depends_on k → IsTopicOfSuspect k
    topic_to k h = let m = (of.depends_on.members k).0 h in (m.0, (x, a.key, record { key = of.key; by = inl m.1.0; own = m.1.1 }, is), m.2)

    topic_from : (k : Item) → Contains a.stands_under k → IsTopicOfSuspect k
    topic_from k h = let m = (of.stands_under.members k).0 h in (m.0, (x, a.key, record { key = of.key; by = inr m.1.0; own = m.1.1 }, is), m.2)

    added_key : (k : Item) → a.adds_to ≡ Some k → IsOfSuspect new suspect k ⊎ IsOfNoSuspect k
    added_key k e =
        let m = (of.adds_to k).0 e in
        elim (cases_Bool (suspect m.0)) [ inl told ↦ inl (m.0, m.2, told) | inr clear ↦ inr (m.0, m.2, clear) ]

    wanted_ends : (l : Item × Item) → Contains (links_by a) l → IsWantedKey l.0 × IsWantedKey l.1
    wanted_ends l h =
        elim (of_links a l h) [
          | inl r ↦ subst (λ (m : Item × Item). IsWantedKey m.0 × IsWantedKey m.1) r.2 (inl own, inr (inl (topic_to r.0 r.1)))
          | inr rest ↦ (elim rest [
            | inl r ↦ subst (λ (m : Item × Item). IsWantedKey m.0 × IsWantedKey m.1) r.2 (inr (inl (topic_from r.0 r.1)), inl own)
            | inr r ↦ subst (λ (m : Item × Item). IsWantedKey m.0 × IsWantedKey m.1) r.2 (inl own, elim (added_key r.0 r.1) [ inl told ↦ inl told | inr clear ↦ inr (inr clear) ])
          ])
        ]

    made_link : (l : Item × Item) → Contains (links_by a) l → IsLink new l.0 l.1 × (IsOfSuspect new suspect l.0 ⊎ IsOfSuspect new suspect l.1)
    made_link l h =
        let P = λ (m : Item × Item). IsLink new m.0 m.1 × (IsOfSuspect new suspect m.0 ⊎ IsOfSuspect new suspect m.1) in
        elim (of_links a l h) [
          | inl r ↦ let m = (of.depends_on.members r.0).0 r.1 in subst P r.2 (depends x m.0 of.key m.1.0 m.1.1 m.2, inl own)
          | inr rest ↦ (elim rest [
            | inl r ↦ let m = (of.stands_under.members r.0).0 r.1 in subst P r.2 (stands x m.0 of.key m.1.0 m.1.1 m.2, inr own)
            | inr r ↦ let m = (of.adds_to r.0).0 r.1 in subst P r.2 (adds x m.0 m.1 of.key m.2 m.3 m.4, inl own)
          ])
        ]

    -- ---- each once

    own_is_none : is_topic a.key ≡ false
    own_is_none = item_is_none new none x a.key of.key

    to_is : (k : Item) → Contains a.depends_on k → is_topic k ≡ true
    to_is k h = let m = (of.depends_on.members k).0 h in ap is_topic m.2 ∙ topic_is m.0 m.1.1

    from_is : (k : Item) → Contains a.stands_under k → is_topic k ≡ true
    from_is k h = let m = (of.stands_under.members k).0 h in ap is_topic m.2 ∙ topic_is m.0 m.1.1

    added_is_none : (k : Item) → a.adds_to ≡ Some k → is_topic k ≡ false
    added_is_none k e = let m = (of.adds_to k).0 e in item_is_none new none m.0 k m.2

    not_both : (j k : Item) → is_topic j ≡ true → is_topic k ≡ false → j ≡ k → ⊥
    not_both j k told clear e = true≢false (sym told ∙ ap is_topic e ∙ clear)

    once_to : Apart (to a)
    unfolding to
    once_to = apart_map (λ other. (a.key, other)) a.depends_on (λ j k e. ap (λ (l : Item × Item). l.1) e) (in_order_apart a.depends_on of.depends_on.order)

    once_from : Apart (from a)
    unfolding from
    once_from = apart_map (λ other. (other, a.key)) a.stands_under (λ j k e. ap (λ (l : Item × Item). l.0) e) (in_order_apart a.stands_under of.stands_under.order)

    once_adding : Apart (adding a)
    unfolding adding
    once_adding = option_apart a.key a.adds_to

    apart_from_to : (l : Item × Item) → Contains (to a) l → Contains (from a) l → ⊥
    apart_from_to l h k = let p = is_to a l h in let q = is_from a l k in not_both q.0 a.key (from_is q.0 q.1) own_is_none (ap (λ (m : Item × Item). m.0) (q.2 ∙ sym p.2))

    apart_to : (l : Item × Item) → Contains (to a) l → Contains (adding a) l → ⊥
    apart_to l h k = let p = is_to a l h in let q = is_adding a l k in not_both p.0 q.0 (to_is p.0 p.1) (added_is_none q.0 q.1) (ap (λ (m : Item × Item). m.1) (p.2 ∙ sym q.2))

    apart_from : (l : Item × Item) → Contains (from a) l → Contains (adding a) l → ⊥
    apart_from l h k = let p = is_from a l h in let q = is_adding a l k in not_both p.0 a.key (from_is p.0 p.1) own_is_none (ap (λ (m : Item × Item). m.0) (p.2 ∙ sym q.2))

    once : Apart (links_by a)
    once =
        subst Apart (sym (links_are a)) (apart_append (to a ++ from a) (adding a) (apart_append (to a) (from a) once_to once_from apart_from_to) once_adding
        (λ l h k. elim (Contains-append_cases (to a) (from a) l h) [ inl p ↦ apart_to l p k | inr p ↦ apart_from l p k ]))

    -- the end that is no topic's, and the first if neither is
    owned : (l : Item × Item) → Contains (links_by a) l → cond (is_topic l.0) l.1 l.0 ≡ a.key
    owned l h =
        let P = λ (m : Item × Item). cond (is_topic m.0) m.1 m.0 ≡ a.key in
        elim (of_links a l h) [
          | inl r ↦ subst P r.2 (ap (λ b. cond b r.0 a.key) own_is_none)
          | inr rest ↦ (elim rest [ inl r ↦ subst P r.2 (ap (λ b. cond b a.key r.0) (from_is r.0 r.1)) | inr r ↦ subst P r.2 (ap (λ b. cond b r.0 a.key) own_is_none) ])
        ]

  pub wanted_key : (k : Item) → IsEndAmong (flat_map links_by arrivals) k → IsWantedKey k
  wanted_key k (l, h, at) =
      let r = of_flat links_by arrivals l h in
      let o = are.only r.0 r.1 in
      let both = wanted_ends r.0 o.0 o.1 o.2 l r.2 in
      elim at [ inl e ↦ subst IsWantedKey e both.0 | inr e ↦ subst IsWantedKey e both.1 ]

  pub wanted_link : (l : Item × Item) → Contains (flat_map links_by arrivals) l → IsLink new l.0 l.1 × (IsOfSuspect new suspect l.0 ⊎ IsOfSuspect new suspect l.1)
  wanted_link l h = let r = of_flat links_by arrivals l h in let o = are.only r.0 r.1 in made_link r.0 o.0 o.1 o.2 l r.2

  pub wanted_once : Apart (flat_map links_by arrivals)
  wanted_once =
      apart_flat links_by (λ a. a.key) arrivals (λ a h. let o = are.only a h in once a o.0 o.1 o.2)
      (λ a b l h k at_a at_b. let o = are.only a h in let p = are.only b k in sym (owned a o.0 o.1 o.2 l at_a) ∙ owned b p.0 p.1 p.2 l at_b) (pairs_map (λ a. a.key) arrivals are.once)

  -- ---- all

  module _ (x k : Item) (key : IsKeyOf new x k) (is : suspect x ≡ true) where
    arrival : (a : Arrival) × Contains arrivals a × (a.key ≡ k)
    arrival = are.all k (x, key, is)

    of_arrival : IsArrivalOf new x arrival.0
    of_arrival =
        let o = are.only arrival.0 arrival.1 in
        subst (λ (y : Item). IsArrivalOf new y arrival.0) (one_item new new none none o.0 x k (subst (IsKeyOf new o.0) arrival.2 o.2.key) key) o.2

    pub wants_to : (t : Topic) → DependsOn new x t → IsOwnTopic t → Contains (flat_map links_by arrivals) (k, topic_key t)
    wants_to t on own_topic =
        subst (λ (j : Item). Contains (flat_map links_by arrivals) (j, topic_key t)) arrival.2
        (flat_has links_by arrivals arrival.0 (arrival.0.key, topic_key t) arrival.1 (has_to arrival.0 (topic_key t) ((of_arrival.depends_on.members (topic_key t)).1 (t, (on, own_topic), refl))))

    pub wants_from : (t : Topic) → IsUnder t x → IsOwnTopic t → Contains (flat_map links_by arrivals) (topic_key t, k)
    wants_from t under own_topic =
        subst (λ (j : Item). Contains (flat_map links_by arrivals) (topic_key t, j)) arrival.2
        (flat_has links_by arrivals arrival.0 (topic_key t, arrival.0.key) arrival.1 (has_from arrival.0 (topic_key t) ((of_arrival.stands_under.members (topic_key t)).1 (t, (under, own_topic), refl))))

    pub wants_added : (j : Item) → IsAddedTo new x j → Contains (flat_map links_by arrivals) (k, j)
    wants_added j added =
        subst (λ (i : Item). Contains (flat_map links_by arrivals) (i, j)) arrival.2
        (flat_has links_by arrivals arrival.0 (arrival.0.key, j) arrival.1 (has_adding arrival.0 j ((of_arrival.adds_to j).1 added)))
