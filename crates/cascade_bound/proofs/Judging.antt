-- What it takes to judge the suspects of an edit is no more than a share for each of them.
use Rattle.std.proofs.Common.{◌≡◌, ◌⊎◌, ◌↔◌, inl, inr, ℕ, ◌+◌, ◌≤◌, List, [], ◌∷◌, ◌++◌, length, refl, sym, ◌∙◌, ap, subst, arith}
use Rattle.std.specs.Prelude.{◌*◌}
use Rattle.std.specs.List.{Contains, flat_map, sum_by}
use Rattle.std.specs.declared.cmp.Ordering.TheVariants.{Equal}
use Rattle.std.proofs.lemmas.List.{length-append}
use Rattle.std.proofs.lemmas.List.Elements.{Contains-append_cases, Contains-append_left, Contains-append_right}
use Rattle.std.proofs.lemmas.List.Sums.{sum_by-cons}
use Rattle.finite_chains.specs.Chains.{IsWithin}
use Rattle.finite_chains.proofs.Members.{Contains-head}
use Rattle.item_index.specs.Graphs.{Graph}
use Rattle.cat_items.specs.declared.edit.Edit.{Edit}
use Rattle.cat_items.specs.declared.item.Right.{Right}
use Rattle.cat_items.specs.declared.item.Item.{Item}
use Rattle.cat_items.specs.declared.item.Item.TheVariants as item
use Rattle.cat_items.specs.Bound.{IsBound, IsSpokenOf, IsSuspect, Lists}
use Rattle.cat_items.specs.Catalogues.{IsInOrder}
use Rattle.cat_items.specs.Fit.{IsFit, IsRight}
use Rattle.cat_items.specs.Good.{IsGood}
use Rattle.cat_items.specs.Order.{item_cmp}
use Rattle.cat_items.specs.Relevant.{Relevant}
use Rattle.cat_items.specs.Survivors.{IsSystemRight}
use Rattle.cascade_laws.specs.Asks.{Asks}
use Rattle.cascade_laws.specs.Topics.{IsUnder, Topic, held}
use Rattle.edit_rules.specs.Chosen.{IsRightOrRoleGrant}
use Rattle.edit_rules.proofs.ItemKeys.{only_granted}
use Rattle.board_graph.specs.BoardKeys.{topic_key}
use Rattle.board_graph.specs.Boards.{IsOwnTopic}
use Rattle.board_graph.proofs.Keys.{topic_is_helper}
use Rattle.topic_lists.specs.Sought.{IsAskedFor}
use Rattle.asked_parts.specs.Parts.{HasAsked, IsAskedBy, IsKept, IsPartOf}
use Rattle.asked_parts.specs.Under.{look_ups}
use Rattle.edit_suspects.proofs.GhostKeys.{helper_is_granted, possible_is_granted}
use Rattle.edit_parts.specs.Parts.{HasAllTouched}
use Rattle.look_up_bound.specs.PossibleRights.{rights_on}
use Rattle.look_up_bound.specs.Touched.{IsPaidBy}
use Rattle.look_up_bound.proofs.AskedUnder.{under_asked}
use Rattle.look_up_bound.proofs.Counting.{Contains-from_flat_map, IsOnce, no_longer, no_more}
use Rattle.look_up_bound.proofs.MoreAsked.{asks_more}
use Rattle.look_up_bound.proofs.RightsOn.{paid_for}
use Rattle.look_up_bound.proofs.Sharp.{most_topics}
use Rattle.plain_needs.proofs.FlatMembers.{Contains-flat_map}
use Rattle.cascade_bound.specs.Granted.{granted_on}
use Rattle.cascade_bound.specs.Judging.{JudgesWithin}
use Rattle.cascade_bound.specs.Marked.{AreTouchedOn}
use Rattle.cascade_bound.specs.Missing.{LacksNothing, MissesNothing}
use Rattle.cascade_bound.proofs.Coming.{is_right}
use Rattle.cascade_bound.proofs.Counted.{IsCounted, IsGone, IsSpoken, counted_is, of_edited, one_placed, stays}
use Rattle.cascade_bound.proofs.Entries.{AreEntries, Entry, entries}
use Rattle.cascade_bound.proofs.Gone.{gone_asks, gone_held}
use Rattle.cascade_bound.proofs.Groups.{charged, split}
use Rattle.cascade_bound.proofs.Items.{once_pairs}
use Rattle.cascade_bound.proofs.Lacking.{needed_stands}
use Rattle.cascade_bound.proofs.Keys.{keys_most}
use Rattle.cascade_bound.proofs.Lists.{listed, stable}
use Rattle.cascade_bound.proofs.Most.{alone_of, ask_share, asks_most, judging_share, right_share, some}
use Rattle.cascade_bound.proofs.Orders.{order_once}
use Rattle.cascade_bound.proofs.Paid.{at_most_one}
use Rattle.cascade_bound.proofs.Possible.{rights_few}
use Rattle.cascade_bound.proofs.Suspects.{at_most, granted_few, spoken}
use Rattle.cascade_bound.proofs.WithoutRights.{asks_plain, possible_plain}

-- ---- sums

ones : {X : Type 0} (xs : List X) → sum_by (λ x. 1) xs ≡ length xs
ones [] = refl
ones (x ∷ xs) = omega (arith, ones xs, sum_by-cons (λ y. 1) x xs)

at_least_ones : {X : Type 0} (f : X → ℕ) (xs : List X) → ((x : X) → 1 ≤ f x) → length xs ≤ sum_by f xs
at_least_ones f [] each = omega arith
at_least_ones f (x ∷ xs) each = omega (arith, at_least_ones f xs each, each x, sum_by-cons f x xs)

twice : {X : Type 0} (f : X → ℕ) (xs : List X) → 2 * sum_by (λ x. 10 * f x) xs ≡ sum_by (λ x. 20 * f x) xs
twice f [] = refl
twice f (x ∷ xs) = omega (arith, twice f xs, sum_by-cons (λ y. 10 * f y) x xs, sum_by-cons (λ y. 20 * f y) x xs)

-- nines, what is asked for and rights
all_shares : (es : List (Item × List Item)) → sum_by (λ e. 9) es + sum_by ask_share es + sum_by right_share es ≡ sum_by judging_share es
all_shares [] = refl
all_shares (e ∷ es) = omega (arith, all_shares es, sum_by-cons (λ d. 9) e es, sum_by-cons ask_share e es, sum_by-cons right_share e es, sum_by-cons judging_share e es)

rights_at_most : (p : Item) → rights_on p ≤ 8
rights_at_most (item.View v) = omega arith
rights_at_most (item.Column k) = omega arith
rights_at_most (item.Routine r) = omega arith
rights_at_most _ = omega arith

module _ (g : Graph Item) (c edited : List Item) (edit : Edit) (marks own : List ℕ) (on : AreTouchedOn g c edit marks own) (good : IsGood c) (fit : IsFit c edit edited) (most : ℕ) (b : IsBound c edit edited most) (misses : MissesNothing b.u edit) where
  abbrev u : List Item
  u = b.u

  within : IsWithin c u
  within y h = (b.spoken_of.members y).1 (inl h)

  abbrev all : (es : List (Entry u)) × AreEntries u b.suspects b.relevant es
  all = entries u b.suspects b.relevant b.counts

  -- what is spoken of is
  spoken_of : (x : Item) → IsSpokenOf c edit edited x → Contains u x
  spoken_of x is = (b.spoken_of.members x).1 is

  entry_spoken : (e : Entry u) → Contains all.0 e → IsSpokenOf c edit edited e.0
  entry_spoken e h = (b.spoken_of.members e.0).0 (spoken c edited edit good fit most b e.0 ((b.are_suspects.members e.0).0 (all.1.of e h).0))

  abbrev Counted : Item → Type 0
  Counted x = IsCounted g marks edit edited x

  which : (x : Item) → Counted x → IsSpoken u edit x ⊎ IsGone u c edit x
  which = counted_is g c edited edit marks own on good fit most b

  -- ---- what is counted is few

  -- a right that doesn't stand, and for which the item pays
  abbrev IsOwed : Item → Item → Type 0
  IsOwed p x = IsSystemRight c x × (¬ (Contains c x)) × IsPaidBy c p x

  one_pays : (p : Item) (xs : List Item) → IsOnce xs → ((x : Item) → Contains xs x → (p ≡ x) ⊎ IsOwed p x) → sum_by (λ x. 1) xs ≤ 9
  one_pays p xs o each =
      let parts = split (λ x. p ≡ x) (IsOwed p) xs each in
      let both = parts.2.once o in
      let itself = at_most_one (λ x. 1) 1 parts.0 both.0 (λ a d ha hd. sym (parts.2.left a ha).1 ∙ (parts.2.left d hd).1) (λ x h. omega arith) in
      let owed = paid_for c good parts.1 (p ∷ []) (λ x. p) (λ x. 1) (once_pairs parts.1 both.1) (λ x h. let of = (parts.2.right x h).1 in (of.0, of.1, of.2, Contains-head p [])) in
      omega (arith, parts.2.sums (λ x. 1), itself, owed, sum_by-cons (λ q. rights_on q * 1) p [], rights_at_most p)

  who_pays : (x : Item) → Counted x → (e : Entry u) × Contains all.0 e × ((e.0 ≡ x) ⊎ IsOwed e.0 x)
  who_pays x counted = elim (which x counted) [
    | inl is ↦ (let e = all.1.has x ((b.are_suspects.members x).1 is.1) in (e.0, e.1, inl e.2))
    | inr gone ↦
        let e = all.1.has gone.paid.payer ((b.are_suspects.members gone.paid.payer).1 gone.paid.suspect) in
        (e.0, e.1, inr (gone.possible, gone.absent, subst (λ p. IsPaidBy c p x) (sym e.2) gone.paid.pays))
  ]

  counted_few : (xs : List Item) → IsOnce xs → ((x : Item) → Contains xs x → Counted x) → length xs ≤ sum_by (λ (e : Entry u). 9) all.0
  counted_few xs o counted =
      let paid = charged (λ (e : Entry u) (x : Item). (e.0 ≡ x) ⊎ IsOwed e.0 x) (λ x. 1) (λ (e : Entry u). 9) all.0 xs o (λ x h. who_pays x (counted x h)) (λ e h group og inside. one_pays e.0 group og (λ x hx. (inside x hx).1)) in
      omega (arith, paid, ones xs)

  -- ---- what is close to suspects

  near : List Item
  near = flat_map (λ (e : Entry u). e.1) all.0

  close : List Item
  close = b.suspects ++ near

  close_suspect : (y : Item) → IsSuspect u edit y → Contains close y
  unfolding close
  close_suspect y suspect = Contains-append_left b.suspects near y ((b.are_suspects.members y).1 suspect)

  close_relevant : (x y : Item) → IsSuspect u edit x → Contains u y → Relevant u y x → Contains close y
  unfolding close near
  close_relevant x y suspect there concerns =
      let e = all.1.has x ((b.are_suspects.members x).1 suspect) in
      Contains-append_right b.suspects near y (Contains-flat_map (λ (d : Entry u). d.1) all.0 e.0 y e.1 (((all.1.of e.0 e.1).1.members y).1 (there, subst (Relevant u y) (sym e.2) concerns)))

  from_close : (y : Item) → Contains close y → IsSuspect u edit y ⊎ ((x : Item) × IsSuspect u edit x × Relevant u y x)
  unfolding close near
  from_close y h = elim (Contains-append_cases b.suspects near y h) [
    | inl suspect ↦ inl ((b.are_suspects.members y).0 suspect)
    | inr other ↦
        let of = Contains-from_flat_map (λ (d : Entry u). d.1) all.0 y other in
        let e = all.1.of of.0 of.1 in
        inr (of.0.0, (b.are_suspects.members of.0.0).0 e.0, ((e.1.members y).0 of.2).1)
  ]

  -- ---- the part

  abbrev IsIn : Item → Type 0
  IsIn x = Counted x ⊎ (IsKept g c marks x × Contains close x)

  in_edited : (x : Item) → IsIn x → Contains edited x ⊎ IsRight x
  in_edited x (inl counted) = of_edited g c edited edit marks own on good fit most b x counted
  in_edited x (inr kept) = inl (stays g c edited edit marks own on good fit most b x kept.0)

  one_in : (x y : Item) → IsIn x → IsIn y → item_cmp x y ≡ Equal → x ≡ y
  one_in x y hx hy e = one_placed g c edited edit marks own on good fit most b x y (in_edited x hx) (in_edited y hy) e

  in_few : (counted : List Item) → ((x : Item) → Counted x → Contains counted x) → (xs : List Item) → IsOnce xs → ((x : Item) → Contains xs x → IsIn x) → length xs ≤ length counted + length close
  in_few counted has xs o each =
      omega (
        arith,
        no_longer xs (counted ++ close) o (λ x h. elim (each x h) [ inl is ↦ Contains-append_left counted close x (has x is) | inr kept ↦ Contains-append_right counted close x kept.1 ]),
        length-append counted close,
      )

  -- what of it is spoken of
  abbrev IsInside : Item → Type 0
  IsInside x = IsIn x × Contains u x

  spoken_or_right : (x : Item) → IsIn x → IsInside x ⊎ IsRight x
  spoken_or_right x (inl counted) = elim (which x counted) [ inl is ↦ inl (inl counted, is.0) | inr gone ↦ inr (is_right c x gone.possible) ]
  spoken_or_right x (inr kept) = inl (inr kept, within x kept.0.0)

  inside_concerns : (x : Item) → IsInside x → IsSuspect u edit x ⊎ ((y : Item) × IsSuspect u edit y × Relevant u x y)
  inside_concerns x (inl counted, there) = elim (which x counted) [ inl is ↦ inl is.1 | inr gone ↦ absurd (gone.out there) ]
  inside_concerns x (inr kept, there) = from_close x kept.1

  module _ (counted part inside : List Item) (are_counted : (x : Item) → Contains counted x ↔ Counted x) (order : IsInOrder part) (are_in : (x : Item) → Contains part x ↔ IsIn x) (inside_order : IsInOrder inside) (are_inside : (x : Item) → Contains inside x ↔ IsInside x) where
    inside_within : IsWithin inside u
    inside_within x h = ((are_inside x).0 h).1

    part_edited : (y : Item) → Contains part y → Contains edited y ⊎ IsRight y
    part_edited y h = in_edited y ((are_in y).0 h)

    part_inside : (y : Item) → Contains part y → Contains inside y ⊎ IsRight y
    part_inside y h = elim (spoken_or_right y ((are_in y).0 h)) [ inl is ↦ inl ((are_inside y).1 is) | inr right ↦ inr right ]

    asks_inside : (x : Item) (t : Topic) → Asks part x t → Asks inside x t
    asks_inside x t asks = asks_plain part inside part_inside x t asks

    asks_spoken : (x : Item) (t : Topic) → Asks part x t → Asks u x t
    asks_spoken x t asks = asks_more inside u inside_within x t (asks_inside x t asks)

    lacks : LacksNothing u inside edit
    lacks = record {
      order = inside_order;
      within = inside_within;
      concerns = λ y h. inside_concerns y ((are_inside y).0 h);
      needs = λ y need h is. needed_stands u c edited edit good fit within misses y need ((b.spoken_of.members y).0 (inside_within y h)) is;
      asked = λ x t h asks. misses x t h (asks_more inside u inside_within x t asks);
    }

    -- ---- what is asked for

    -- what is counted asks for, a suspect that is spoken of asks for, but for what the option of a right adds to that is spoken of no more
    counted_asks : (x : Item) (t : Topic) → Counted x → Asks part x t → ((y : Item) × IsSuspect u edit y × Asks inside y t) ⊎ ((gone : IsGone u c edit x) × (t ≡ held gone.paid.pays.right))
    counted_asks x t is asks = elim (which x is) [
      | inl at ↦ inl (x, at.1, asks_inside x t asks)
      | inr gone ↦ (elim (gone_asks c edited edit good fit most b part part_edited x gone t asks) [
        | inl other ↦ inl (other.0, other.2, asks_inside other.0 t other.3)
        | inr option ↦ inr (gone, option)
      ])
    ]

    asked_close : (x y : Item) (t : Topic) → Counted x → IsKept g c marks y → Asks part x t → IsUnder t y → Contains close y
    asked_close x y t is kept asks under = elim (counted_asks x t is asks) [
      | inl by ↦ close_relevant by.0 y by.1 (within y kept.0) (under_asked u by.0 y t (asks_more inside u inside_within by.0 t by.2) under)
      | inr option ↦ close_suspect y (gone_held c edited edit good fit most b part part_edited x option.0 y (within y kept.0) (subst (λ s. IsUnder s y) option.1 under))
    ]

    is_part : IsPartOf g c marks counted part
    is_part = record {
      order = order;
      has_suspects = λ x h. (are_in x).1 (inl ((are_counted x).0 h));
      from = λ x h. elim ((are_in x).0 h) [ inl is ↦ inl ((are_counted x).1 is) | inr kept ↦ inr kept.0 ];
      asked = λ x y t h kept asks under. (are_in y).1 (inr (kept, asked_close x y t ((are_counted x).0 h) kept asks under));
    }

    has_all : HasAllTouched g marks edit part counted
    has_all x (inl touched) = (are_counted x).1 (inl touched)
    has_all x (inr (inl right)) = (are_counted x).1 (inr (inl right))
    has_all x (inr (inr possible)) = (are_counted x).1 (inr (inr (possible_plain part edited part_edited x possible.0, possible.1, possible.2)))

    -- ---- keys and rights

    abbrev IsAsked : Item → Type 0
    IsAsked k = IsAskedBy inside b.suspects k

    asked_granted : (k : Item) → IsAsked k → IsRightOrRoleGrant k
    asked_granted k is = subst IsRightOrRoleGrant (sym is.2.2) (helper_is_granted (topic_key is.2.0) (topic_is_helper is.2.0 is.2.1.1))

    one_key : (j k : Item) → IsAsked j → IsAsked k → item_cmp j k ≡ Equal → j ≡ k
    one_key j k hj hk e = only_granted j k (asked_granted j hj) e

    topics_few : (e : Entry u) (topics : List Topic) → Contains all.0 e → IsOnce topics → ((t : Topic) → Contains topics t → IsAskedFor inside e.0 t) → length topics ≤ most_topics e.0 e.1 + 6 * some e.1
    topics_few e topics h o asked = asks_most c edited u edit good fit spoken_of misses e.0 e.1 (all.1.of e h).1 inside lacks topics (once_pairs topics o) (λ t ht. (asked t ht).0) (entry_spoken e h)

    keys_few : (keys : List Item) → IsOnce keys → ((k : Item) → Contains keys k → IsAsked k) → sum_by (look_ups g) keys ≤ sum_by ask_share all.0
    keys_few keys o asked = keys_most g c u inside on.no_helper on.whole on.full within inside_within b.suspects b.relevant all.0 all.1 (λ e. most_topics e.0 e.1 + 6 * some e.1) topics_few keys o asked

    few_keys : (keys : List Item) → IsOnce keys → ((k : Item) → Contains keys k → IsAsked k) → length keys ≤ sum_by ask_share all.0
    few_keys keys o asked = omega (arith, keys_few keys o asked, at_least_ones (look_ups g) keys (λ k. omega arith))

    no_option : (t : Topic) → IsOwnTopic t → (r : Right) → t ≡ held r → ⊥
    no_option t own_t r e = subst IsOwnTopic e own_t

    has_asked : (keys : List Item) → ((k : Item) → Contains keys k ↔ IsAsked k) → HasAsked part counted keys
    has_asked keys are k (x, h, (t, asked, e)) = elim (counted_asks x t ((are_counted x).0 h) asked.0) [
      | inl by ↦ (are k).1 (by.0, (b.are_suspects.members by.0).1 by.1, (t, (by.2, asked.1), e))
      | inr option ↦ absurd (no_option t asked.1 option.0.paid.pays.right option.1)
    ]

    abbrev IsPossible : Item → Type 0
    IsPossible x = IsSystemRight inside x

    one_right : (x y : Item) → IsPossible x → IsPossible y → item_cmp x y ≡ Equal → x ≡ y
    one_right x y hx hy e = only_granted x y (possible_is_granted inside x hx) e

    -- ---- rights for the part

    abbrev Concerned : Entry u → Item → Type 0
    Concerned e y = (e.0 ≡ y) ⊎ Contains e.1 y

    concerned : (y : Item) → Contains inside y → (e : Entry u) × Contains all.0 e × Concerned e y
    concerned y h = elim (lacks.concerns y h) [
      | inl suspect ↦ let e = all.1.has y ((b.are_suspects.members y).1 suspect) in (e.0, e.1, inl e.2)
      | inr of ↦
          let e = all.1.has of.0 ((b.are_suspects.members of.0).1 of.1) in
          (e.0, e.1, inr (((all.1.of e.0 e.1).1.members y).1 (inside_within y h, subst (Relevant u y) (sym e.2) of.2)))
    ]

    -- nothing stands on what nothing is relevant to
    own_granted : (e : Entry u) → Contains all.0 e → (ys : List Item) → e.1 ≡ ys → granted_on e.0 ≤ 10 * some e.1
    own_granted e h [] same_list = omega (arith, (alone_of c edited u edit good fit spoken_of misses e.0 (entry_spoken e h) (subst (Lists (λ y. Contains u y × Relevant u y e.0)) same_list (all.1.of e h).1)).granted)
    own_granted e h (y ∷ ys) same_list = let one : some e.1 ≡ 1 = ap some same_list in omega (arith, granted_few e.0, one)

    grants_few : (e : Entry u) → Contains all.0 e → (ys : List Item) → IsOnce ys → ((y : Item) → Contains ys y → Concerned e y) → sum_by granted_on ys ≤ 10 * (some e.1 + length e.1)
    grants_few e h ys o each =
        let parts = split (λ y. e.0 ≡ y) (Contains e.1) ys each in
        let both = parts.2.once o in
        let own_one = at_most_one granted_on (10 * some e.1) parts.0 both.0 (λ a d ha hd. sym (parts.2.left a ha).1 ∙ (parts.2.left d hd).1) (λ y hy. subst (λ z. granted_on z ≤ 10 * some e.1) (parts.2.left y hy).1 (own_granted e h e.1 refl)) in
        omega (arith, parts.2.sums granted_on, own_one, no_more granted_on parts.1 e.1 both.1 (λ y hy. (parts.2.right y hy).1), at_most granted_on 10 e.1 granted_few)

    shares : (es : List (Entry u)) → sum_by (λ e. 20 * (some e.1 + length e.1)) es ≡ sum_by right_share es
    shares [] = refl
    shares (e ∷ es) = omega (arith, shares es, sum_by-cons (λ (d : Entry u). 20 * (some d.1 + length d.1)) e es, sum_by-cons right_share e es)

    two_rights : (rights : List Item) → IsOnce rights → ((x : Item) → Contains rights x → IsPossible x) → 2 * length rights ≤ sum_by right_share all.0
    two_rights rights o are =
        let paid = charged Concerned granted_on (λ (e : Entry u). 10 * (some e.1 + length e.1)) all.0 inside (order_once inside inside_order) concerned (λ e h group og is. grants_few e h group og (λ y hy. (is y hy).1)) in
        omega (arith, rights_few inside inside_order rights (once_pairs rights o) are, paid, twice (λ (e : Entry u). some e.1 + length e.1) all.0, shares all.0)

    few_rights : (rights : List Item) → IsOnce rights → ((x : Item) → Contains rights x → IsPossible x) → length rights ≤ sum_by right_share all.0
    few_rights rights o are = omega (arith, two_rights rights o are)

    has_rights : (rights : List Item) → ((x : Item) → Contains rights x ↔ IsPossible x) → (x : Item) → IsSystemRight part x → Contains rights x
    has_rights rights are x is = (are x).1 (possible_plain part inside part_inside x is)

    -- together
    all_few : (keys rights : List Item) → IsInOrder counted → IsInOrder keys → IsInOrder rights → ((k : Item) → Contains keys k ↔ IsAsked k) → ((x : Item) → Contains rights x ↔ IsPossible x) → length counted + (sum_by (look_ups g) keys + 2 * length rights) ≤ sum_by judging_share all.0
    all_few keys rights counted_order keys_order rights_order are_keys are_rights =
        omega (
          arith,
          counted_few counted (order_once counted counted_order) (λ x h. (are_counted x).0 h),
          keys_few keys (order_once keys keys_order) (λ k h. (are_keys k).0 h),
          two_rights rights (order_once rights rights_order) (λ x h. (are_rights x).0 h),
          all_shares all.0,
        )

  -- what takes no more look-ups than for any part that has all takes no more than the bound
  abbrev Takes : ℕ → Type 0
  Takes spent = JudgesWithin g c edit marks spent

  abbrev share : ℕ
  share = sum_by judging_share all.0

  pub judging_few : (spent : ℕ) → Takes spent → spent ≤ sum_by judging_share all.0
  judging_few spent takes = stable spent share (λ over. listed Counted (λ x y hx hy e. one_in x y (inl hx) (inl hy) e) (sum_by (λ (e : Entry u). 9) all.0) counted_few (λ found. with_counted over found.0 found.1 found.2))
    where
      with_keys : (spent ≤ share → ⊥) → (counted : List Item) → IsInOrder counted → (are_counted : (x : Item) → Contains counted x ↔ Counted x) → (part : List Item) → (order : IsInOrder part) → (are_in : (x : Item) → Contains part x ↔ IsIn x)
          → (inside : List Item) → (inside_order : IsInOrder inside) → (are_inside : (x : Item) → Contains inside x ↔ IsInside x) → (keys : List Item) → IsInOrder keys → ((k : Item) → Contains keys k ↔ IsAskedBy inside b.suspects k) → ⊥
      with_keys over counted counted_order are_counted part order are_in inside inside_order are_inside keys keys_order are_keys =
          listed (λ x. IsSystemRight inside x) (one_right counted part inside are_counted order are_in inside_order are_inside) (sum_by right_share all.0) (few_rights counted part inside are_counted order are_in inside_order are_inside) (λ rights.
          over (omega (
            arith,
            takes counted part keys rights.0 (has_all counted part inside are_counted order are_in inside_order are_inside) (is_part counted part inside are_counted order are_in inside_order are_inside)
                (has_asked counted part inside are_counted order are_in inside_order are_inside keys are_keys) (has_rights counted part inside are_counted order are_in inside_order are_inside rights.0 rights.2),
            all_few counted part inside are_counted order are_in inside_order are_inside keys rights.0 counted_order keys_order rights.1 are_keys rights.2,
          )))

      with_inside : (spent ≤ share → ⊥) → (counted : List Item) → IsInOrder counted → (are_counted : (x : Item) → Contains counted x ↔ Counted x) → (part : List Item) → (order : IsInOrder part) → (are_in : (x : Item) → Contains part x ↔ IsIn x)
          → (inside : List Item) → (inside_order : IsInOrder inside) → (are_inside : (x : Item) → Contains inside x ↔ IsInside x) → ⊥
      with_inside over counted counted_order are_counted part order are_in inside inside_order are_inside =
          listed (λ k. IsAskedBy inside b.suspects k) (one_key counted part inside are_counted order are_in inside_order are_inside) (sum_by ask_share all.0) (few_keys counted part inside are_counted order are_in inside_order are_inside) (λ keys.
          with_keys over counted counted_order are_counted part order are_in inside inside_order are_inside keys.0 keys.1 keys.2)

      with_part : (spent ≤ share → ⊥) → (counted : List Item) → IsInOrder counted → (are_counted : (x : Item) → Contains counted x ↔ Counted x) → (part : List Item) → (order : IsInOrder part) → (are_in : (x : Item) → Contains part x ↔ IsIn x) → ⊥
      with_part over counted counted_order are_counted part order are_in =
          listed IsInside (λ x y hx hy e. one_in x y hx.0 hy.0 e) (length part) (λ xs o each. no_longer xs part o (λ x h. (are_in x).1 (each x h).0)) (λ inside.
          with_inside over counted counted_order are_counted part order are_in inside.0 inside.1 inside.2)

      with_counted : (spent ≤ share → ⊥) → (counted : List Item) → IsInOrder counted → (are_counted : (x : Item) → Contains counted x ↔ Counted x) → ⊥
      with_counted over counted counted_order are_counted =
          listed IsIn one_in (length counted + length close) (in_few counted (λ x is. (are_counted x).1 is)) (λ part. with_part over counted counted_order are_counted part.0 part.1 part.2)
