-- How many links an item has, how many come for it, and how many topics it asks for, against the parts, schemas and role authorizations that are relevant to it.
use Rattle.std.proofs.Common.{◌≡◌, inl, inr, ℕ, ◌+◌, ◌<◌, ◌≤◌, List, [], ◌∷◌, length, refl, ap, subst, arith}
use Rattle.std.specs.Prelude.{◌≢◌, ◌*◌}
use Rattle.std.specs.List.{AllPairs, Contains}
use Rattle.finite_chains.specs.Chains.{IsWithin}
use Rattle.finite_chains.proofs.Members.{Contains-nil, Contains-head}
use Rattle.item_index.specs.Graphs.{Graph, HasKey, IsWhole}
use Rattle.item_index.specs.Shelves.{list_at}
use Rattle.sql_names.specs.declared.object.Object.{Object}
use Rattle.cat_items.specs.contracts.item.ItemPartialEq.TheImpl as same
use Rattle.cat_items.specs.declared.edit.Edit.{Edit}
use Rattle.cat_items.specs.declared.item.View.{View}
use Rattle.cat_items.specs.declared.item.Item.{Item}
use Rattle.cat_items.specs.declared.item.Item.TheVariants as item
use Rattle.cat_items.specs.Bound.{IsSpokenOf, Lists}
use Rattle.cat_items.specs.Fit.{IsFit}
use Rattle.cat_items.specs.Good.{IsGood}
use Rattle.cat_items.specs.Catalogues.{IsInOrder}
use Rattle.cat_items.specs.Relevant.{Relevant}
use Rattle.cat_items.specs.Rights.{path_of}
use Rattle.cat_items.specs.Shape.{HasDerivedFields}
use Rattle.cat_items.specs.Survivors.{AreSurvivors, IsSystemRight}
use Rattle.cascade_laws.specs.Asks.{Asks}
use Rattle.cascade_laws.specs.Topics.{DependsOn, Topic}
use Rattle.board_graph.specs.BoardKeys.{IsKeyOf, of_item, of_possible}
use Rattle.board_steps.specs.Plans.{IsFullBoard}
use Rattle.board_steps.proofs.Edited.{good_apart}
use Rattle.look_up_bound.specs.PossibleRights.{IsBySystem}
use Rattle.look_up_bound.specs.TopicParts.{HasParts}
use Rattle.look_up_bound.proofs.Counting.{IsOnce}
use Rattle.look_up_bound.proofs.ManyNeeds.{system_topics_most}
use Rattle.look_up_bound.proofs.MoreAsked.{depends_asks}
use Rattle.look_up_bound.proofs.OneKey.{one_view}
use Rattle.look_up_bound.proofs.Sharp.{asked_most, is_given, most_plain, most_topics, system_given}
use Rattle.look_up_bound.proofs.Standing.{depended_good, depended_there}
use Rattle.look_up_bound.proofs.Survivor.{survivor_supported}
use Rattle.look_up_bound.proofs.TableTopics.{table_asks_most}
use Rattle.cascade_bound.specs.Missing.{LacksNothing, MissesNothing}
use Rattle.cascade_bound.proofs.Alone.{IsAlone, IsUserOrRole, alone, user_asks}
use Rattle.cascade_bound.proofs.Asking.{old_asks_most}
use Rattle.cascade_bound.proofs.Coming.{by_system_or_not, standing_object}
use Rattle.cascade_bound.proofs.Items.{by_system, once_pairs, rests_are_nodes, right_object}
use Rattle.cascade_bound.proofs.Nodes.{rests_are_topics, same_itself}
use Rattle.cascade_bound.proofs.Suspects.{table_or_not}
use Rattle.cascade_bound.proofs.SystemAsking.{system_asks_most}

-- whether anything is relevant
abbrev pub some : List Item → ℕ
some [] = 0
some (x ∷ xs) = 1

pub some_at_most : (xs : List Item) → some xs ≤ length xs
some_at_most [] = omega arith
some_at_most (x ∷ xs) = omega arith

some_of : (xs : List Item) → 0 < length xs → some xs ≡ 1
some_of [] low = absurd (omega (arith, low))
some_of (x ∷ xs) low = refl

-- ---- what a suspect with what is relevant to it pays: for links, for what comes, for what it asks for, and for rights that the system could grant

abbrev pub link_share : Item × List Item → ℕ
link_share e = 4 * (most_topics e.0 e.1 + some e.1) + 31

abbrev pub come_share : Item × List Item → ℕ
come_share e = most_topics e.0 e.1 + some e.1 + 3

abbrev pub ask_share : Item × List Item → ℕ
ask_share e = 6 * (most_topics e.0 e.1 + 6 * some e.1) + 4 * length e.1

abbrev pub right_share : Item × List Item → ℕ
right_share e = 20 * some e.1 + 20 * length e.1

-- and to be judged
abbrev pub judging_share : Item × List Item → ℕ
judging_share e = 9 + ask_share e + right_share e

module _ (c edited u : List Item) (edit : Edit) (good : IsGood c) (fit : IsFit c edit edited) (spoken : (x : Item) → IsSpokenOf c edit edited x → Contains u x) (misses : MissesNothing u edit) where
  within : IsWithin c u
  within y h = spoken y (inl h)

  -- nothing is relevant to it
  pub alone_of : (x : Item) → IsSpokenOf c edit edited x → Lists (λ y. Contains u y × Relevant u y x) [] → IsAlone c edited u edit good fit spoken misses x
  alone_of x is lists = alone c edited u edit good fit spoken misses x is (λ y h concerns. Contains-nil y ((lists.members y).1 (h, concerns)))

  module _ (x : Item) (xs : List Item) (lists : Lists (λ y. Contains u y × Relevant u y x) xs) where
    some_there : (y : Item) → Contains u y → Relevant u y x → 0 < length xs
    some_there y h concerns = let there = (lists.members y).1 (h, concerns) in omega (arith, there.1)

    -- ---- topics whose parts stand

    pub standing_most : (l : List Item) → IsWithin l u → (topics : List Topic) → IsOnce topics → ((t : Topic) → Contains topics t → DependsOn l x t × HasParts u t) → length topics ≤ most_topics x xs
    standing_most l l_within topics o each = asked_most u l xs l_within topics (once_pairs topics o) x lists (λ t h. let d = each t h in (depends_asks l x t d.0, d.1))

    -- the same of a right by the system, whether or not they stand
    pub system_most : (l : List Item) → IsWithin l u → ((v w : View) → Contains l (item.View v) → Contains l (item.View w) → path_of v.view ≡ path_of w.view → v ≡ w) → IsBySystem x → 0 < length xs → (topics : List Topic) → IsOnce topics → ((t : Topic) → Contains topics t → DependsOn l x t) → length topics ≤ most_topics x xs + 1
    system_most l l_within one is low topics o each = omega (arith, system_topics_most l u one l_within x xs topics is lists low (once_pairs topics o) each, most_plain x xs (system_given x is))

    -- of a list of survivors
    pub survivors_most : (l f : List Item) → IsWithin l u → AreSurvivors f l → ((y : Item) → Contains l y → HasDerivedFields y) → Contains l x → (topics : List Topic) → IsOnce topics → ((t : Topic) → Contains topics t → DependsOn l x t) → length topics ≤ most_topics x xs + some xs
    survivors_most l f l_within survive derived h topics o each = elim (by_system_or_not x) [
      | inl is ↦
          let object = standing_object f l u x is (survivor_supported f l survive x h) in
          let low = some_there object.0 (l_within object.0 object.1) object.2 in
          omega (arith, system_most l l_within (one_view l survive.order) is low topics o each, some_of xs low)
      | inr other ↦ omega (arith, standing_most l l_within topics o (λ t ht. (each t ht, depended_there f l survive u l_within derived x t h (λ is. absurd (other is)) (each t ht))))
    ]

    -- of a right that the system could grant
    pub possible_most : (l : List Item) → IsWithin l u → IsInOrder l → IsSystemRight l x → (topics : List Topic) → IsOnce topics → ((t : Topic) → Contains topics t → DependsOn l x t) → length topics ≤ most_topics x xs + some xs
    possible_most l l_within order is topics o each =
        let object = right_object l u x is in
        let low = some_there object.0 (l_within object.0 object.1) object.2 in
        omega (arith, system_most l l_within (one_view l order) (by_system l x is) low topics o each, some_of xs low)

    -- ---- links on a board

    module _ (g : Graph Item) (whole : IsWhole same.ghosts.eq g) (full : IsFullBoard g c) (n : ℕ) (k : Item) (has : HasKey g n k) (key : IsKeyOf c x k) where
      pub links_most : length (list_at g.rests n) ≤ most_topics x xs + some xs
      links_most =
          let topics = rests_are_topics same.ghosts.eq g c (good_apart c good) whole same_itself full n x k has key (λ m h. rests_are_nodes g n m whole h) in
          omega (arith, topics.1, by topics.0 topics.2 topics.3 key)
        where
          by : (topics : List Topic) → IsOnce topics → ((t : Topic) → Contains topics t → DependsOn c x t) → IsKeyOf c x k → length topics ≤ most_topics x xs + some xs
          by topics o each (of_item h e) = omega (arith, standing_most c within topics o (λ t ht. (each t ht, depended_good c u good within x t h (each t ht))))
          by topics o each (of_possible h none e) = possible_most c within good.survivors.order h topics o each

    -- ---- what is asked for

    module _ (part : List Item) (lacks : LacksNothing u part edit) (topics : List Topic) (differ : AllPairs (λ s t. s ≢ t) topics) (asks : (t : Topic) → Contains topics t → Asks part x t) where
      by_the_system : IsBySystem x → (y : Item) → Contains u y → Relevant u y x → length topics ≤ most_topics x xs + 6 * some xs
      by_the_system is y h concerns =
          let low = some_there y h concerns in
          omega (arith, system_asks_most u part lacks.order lacks.within lacks.needs x is xs lists low topics differ asks, some_of xs low)

      of_added : Contains edit.added x → length topics ≤ most_topics x xs + 6 * some xs
      of_added h = omega (arith, asked_most u part xs lacks.within topics differ x lists (λ t ht. (asks t ht, lacks.asked x t h (asks t ht))))

      old_plain : Contains c x → (ys : List Item) → xs ≡ ys → length topics ≤ most_topics x xs + 3 → length topics ≤ most_topics x xs + 6 * some xs
      old_plain h [] e few = by topics asks
        where
          user : IsUserOrRole x
          user = (alone_of x (inl h) (subst (Lists (λ y. Contains u y × Relevant u y x)) e lists)).old h

          by : (ts : List Topic) → ((t : Topic) → Contains ts t → Asks part x t) → length ts ≤ most_topics x xs + 6 * some xs
          by [] each = omega arith
          by (t ∷ ts) each = absurd (user_asks part x t user (each t (Contains-head t ts)))
      old_plain h (y ∷ ys) e few = let one : some xs ≡ 1 = ap some e in omega (arith, few, one)

      of_old : Contains c x → length topics ≤ most_topics x xs + 6 * some xs
      of_old h = elim (by_system_or_not x) [
        | inl is ↦ let object = standing_object good.all c u x is (survivor_supported good.all c good.survivors x h) in by_the_system is object.0 (within object.0 object.1) object.2
        | inr plain ↦ old_plain h xs refl (elim (table_or_not x) [
          | inl table ↦ of_table table.0 table.1
          | inr other ↦ old_asks_most c u part good within lacks.within x h plain other xs lists topics differ asks
        ])
      ]
        where
          of_table : (o : Object) → x ≡ item.Table o → length topics ≤ most_topics x xs + 3
          of_table o e = omega (
            arith,
            table_asks_most u part o xs topics lacks.within (subst (λ z. Lists (λ y. Contains u y × Relevant u y z) xs) e lists) differ (λ t ht. subst (λ y. Asks part y t) e (asks t ht)),
            most_plain x xs (ap is_given e),
          )

      by_possible : IsSystemRight edited x → length topics ≤ most_topics x xs + 6 * some xs
      by_possible is =
          let object = right_object edited u x is in
          let there : Contains u object.0 = elim ((fit.is_edited.members object.0).0 object.1) [ inl old ↦ within object.0 old.0 | inr added ↦ spoken object.0 (inr (inl added)) ] in
          by_the_system (by_system edited x is) object.0 there object.2

      pub asks_most : IsSpokenOf c edit edited x → length topics ≤ most_topics x xs + 6 * some xs
      asks_most (inl old) = of_old old
      asks_most (inr (inl added)) = of_added added
      asks_most (inr (inr possible)) = by_possible possible
