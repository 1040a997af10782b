-- What comes onto a board for the suspects of the new catalogue, and the links that it wants.
use Rattle.std.proofs.Common.{◌≡◌, ◌⊎◌, inl, inr, ℕ, ◌+◌, ◌<◌, ◌≤◌, Bool, true, List, [], ◌∷◌, ◌++◌, length, Option, Some, None, sym, ◌∙◌, refl, subst, arith}
use Rattle.std.specs.Prelude.{◌*◌, map}
use Rattle.std.specs.List.{Contains}
use Rattle.std.specs.Option.{option_to_list}
use Rattle.std.proofs.lemmas.Bool.{cases_Bool}
use Rattle.std.proofs.lemmas.Bool.Decides.{not_from_Decides}
use Rattle.std.proofs.lemmas.List.{length-append, length-map}
use Rattle.finite_chains.specs.Chains.{IsChain, IsWithin}
use Rattle.finite_chains.proofs.Members.{Contains-nil, Contains-cases}
use Rattle.item_index.specs.Graphs.{Graph}
use Rattle.cat_items.specs.contracts.item.ItemPartialEq.TheImpl as same
use Rattle.cat_items.specs.declared.edit.Edit.{Edit}
use Rattle.cat_items.specs.declared.need.Auth.{Auth}
use Rattle.cat_items.specs.declared.need.Auth.TheVariants.{System, Public, Named}
use Rattle.cat_items.specs.declared.item.Item.{Item}
use Rattle.cat_items.specs.declared.item.Item.TheVariants as item
use Rattle.cat_items.specs.Bound.{HasRelevant, IsBound, IsSuspect, Lists, square}
use Rattle.cat_items.specs.Bound as bound
use Rattle.cat_items.specs.Fit.{IsFit, IsRight}
use Rattle.cat_items.specs.Good.{IsGood}
use Rattle.cat_items.specs.Relevant.{Relevant, named}
use Rattle.cat_items.specs.Shape.{HasDerivedFields}
use Rattle.cat_items.specs.Supported.{Supported}
use Rattle.cat_items.specs.Survivors.{AreSurvivors, IsSystemRight, IsWithSystem}
use Rattle.support_laws.proofs.Decisions.{system_right}
use Rattle.cascade_laws.specs.Topics.{DependsOn, Topic}
use Rattle.cascade_laws.proofs.Kept.{possible_among}
use Rattle.board_graph.specs.BoardKeys.{IsKeyOf, of_item, of_possible, topic_key}
use Rattle.board_plans.specs.declared.arrivals.Arrival.{Arrival}
use Rattle.board_plans.specs.Arrivals.{links_by}
use Rattle.board_plans.specs.Planning.{IsArrivalOf}
use Rattle.edit_suspects.specs.Suspects.{AreFresh, is_suspect}
use Rattle.edit_suspects.proofs.Finding.{at_most_two, spread_of}
use Rattle.edit_suspects.proofs.Spreads.{marked_alike}
use Rattle.edit_suspects.proofs.Standing.{known_key}
use Rattle.look_up_bound.specs.PossibleRights.{IsBySystem}
use Rattle.look_up_bound.specs.Touched.{IsPaidFor, IsTouched, of_added, of_new}
use Rattle.look_up_bound.proofs.Counting.{IsOnce}
use Rattle.look_up_bound.proofs.Few.{depended_few}
use Rattle.look_up_bound.proofs.ManyNeeds.{system_topics_few}
use Rattle.look_up_bound.proofs.OneKey.{one_view}
use Rattle.look_up_bound.proofs.Standing.{depended_there}
use Rattle.look_up_bound.proofs.Survivor.{survivor_supported}
use Rattle.look_up_bound.proofs.Touching.{touched_is_suspect}
use Rattle.cascade_bound.specs.Marked.{AreTouchedOn}
use Rattle.cascade_bound.proofs.Groups.{chosen}
use Rattle.cascade_bound.proofs.Items.{by_system, once_pairs, some_relevant}
use Rattle.cascade_bound.proofs.Nodes.{same_itself}
use Rattle.cascade_bound.proofs.Orders.{order_once}
use Rattle.cascade_bound.proofs.Reached.{known_touched, tells_changed, tells_target}

-- ---- lists

chain_in : {X : Type 0} (sup : List X → X → Type 0) (c chain : List X) → IsChain sup c chain → (x : X) → Contains chain x → Contains c x
chain_in sup c [] is x h = absurd (Contains-nil x h)
chain_in sup c (y ∷ chain) is x h = elim (Contains-cases y chain x h) [ inl e ↦ subst (Contains c) e is.0 | inr later ↦ chain_in sup c chain is.2 x later ]

pub length-option : {X : Type 0} (o : Option X) → length (option_to_list o) ≤ 1
length-option None = omega arith
length-option (Some x) = omega arith

-- ---- rights

pub by_system_or_not : (x : Item) → IsBySystem x ⊎ (¬ (IsBySystem x))
by_system_or_not (item.Held r) = by r.grantor
  where
    by : (a : Auth) → (a ≡ System) ⊎ (¬ (a ≡ System))
    by System = inl refl
    by Public = inr (λ e. cc)
    by (Named name) = inr (λ e. cc)
by_system_or_not (item.Grantable r) = by r.grantor
  where
    by : (a : Auth) → (a ≡ System) ⊎ (¬ (a ≡ System))
    by System = inl refl
    by Public = inr (λ e. cc)
    by (Named name) = inr (λ e. cc)
by_system_or_not _ = inr (λ none. none)

right_derived : (c : List Item) (x : Item) → IsSystemRight c x → HasDerivedFields x
right_derived c (item.Held r) is = tt
right_derived c (item.Grantable r) is = tt
right_derived c _ is = absurd is

pub is_right : (c : List Item) (x : Item) → IsSystemRight c x → IsRight x
is_right c (item.Held r) is = tt
is_right c (item.Grantable r) is = tt
is_right c _ is = absurd is

-- what a right that stands is on is relevant to it
pub standing_object : (f new u : List Item) (x : Item) → IsBySystem x → Supported f new x → (y : Item) × Contains new y × Relevant u y x
standing_object f new u (item.Held r) is rests = (rests.1.0.0, rests.1.0.1, named (inl (inl rests.1.0.2)))
standing_object f new u (item.Grantable r) is rests = (rests.0.1.0.0, rests.0.1.0.1, named (inl (inl rests.0.1.0.2)))
standing_object f new u _ is rests = absurd is

module _ (g : Graph Item) (c edited f : List Item) (edit : Edit) (marks own : List ℕ) (on : AreTouchedOn g c edit marks own) (good : IsGood c) (fit : IsFit c edit edited) (most : ℕ) (b : IsBound c edit edited most) (fresh : List Item)
    (with_f : IsWithSystem edited f) (are_fresh : AreFresh c edited fresh) where
  abbrev u : List Item
  u = b.u

  abbrev suspect : Item → Bool
  suspect = is_suspect g marks edit.added fresh

  spoken : (x : Item) → Contains f x → Contains u x
  spoken x h = elim ((with_f.members x).0 h) [
    | inr right ↦ (b.spoken_of.members x).1 (inr (inr right))
    | inl here ↦ (elim ((fit.is_edited.members x).0 here) [ inl old ↦ (b.spoken_of.members x).1 (inl old.0) | inr added ↦ (b.spoken_of.members x).1 (inr (inl added)) ])
  ]

  -- ---- suspects

  known : (x : Item) → suspect x ≡ true → Contains c x ⊎ IsSystemRight c x → IsTouched c edit edited x
  known x sx is =
      let key = known_key c x is in
      let at = on.full.board.items x key.0 key.1 in
      known_touched g c edited edit marks own on good fit at.0 x key.0 ((marked_alike same.ghosts.eq g c edited edit marks fresh good on.whole on.full fit (spread_of g edit marks on.touched) are_fresh same_itself x key.0 at.0 key.1 at.1).0 sx) at.1 key.1

  touched : (x : Item) → suspect x ≡ true → Contains f x → IsTouched c edit edited x
  touched x sx h = elim ((with_f.members x).0 h) [
    | inl here ↦ (elim ((fit.is_edited.members x).0 here) [ inl old ↦ known x sx (inl old.0) | inr added ↦ of_added x added ])
    | inr right ↦
        let before = system_right c x in
        elim (cases_Bool before.0) [
          | inl e ↦ known x sx (inr (before.1.0 e))
          | inr e ↦ of_new x right (not_from_Decides before.0 before.1 e)
        ]
  ]

  pub suspect_of : (x : Item) → suspect x ≡ true → Contains f x → IsSuspect u edit x
  suspect_of x sx h = elim (touched_is_suspect u c edit edited fit b.spoken_of.members (tells_target g c edited edit marks own on good fit) (tells_changed g c edited edit marks own on good fit) x (touched x sx h)) [
    | inl is ↦ is.1
    | inr paid ↦ by paid
  ]
    where
      by : IsPaidFor u c edit x → IsSuspect u edit x
      by paid = bound.spread paid.payer x paid.suspect ((b.spoken_of.members paid.payer).1 (inl paid.pays.stands)) (spoken x h) (elim paid.pays.is [
        | inl e ↦ subst (λ y. Relevant u paid.payer y) (sym e) (named (inl paid.pays.is_part))
        | inr e ↦ subst (λ y. Relevant u paid.payer y) (sym e) (named (inl paid.pays.is_part))
      ])

  -- ---- the new catalogue

  module _ (new : List Item) (survive : AreSurvivors f new) where
    pub new_in : IsWithin new f
    new_in x h = let s = (survive.members x).0 h in chain_in (Supported f) f s.0 s.1 x s.2

    pub new_spoken : IsWithin new u
    new_spoken x h = spoken x (new_in x h)

    pub derived : (x : Item) → Contains new x → HasDerivedFields x
    derived x h = elim ((with_f.members x).0 (new_in x h)) [
      | inr right ↦ right_derived edited x right
      | inl here ↦ (elim ((fit.is_edited.members x).0 here) [ inl old ↦ good.shape.derived x old.0 | inr added ↦ fit.derived x added ])
    ]

    -- what the system could grant for it is spoken of
    possible_in : (x : Item) → IsSystemRight new x → Contains f x
    possible_in x is =
        let here : (y : Item) → Contains new y → (¬ (IsRight y)) → Contains edited y = λ y h other. elim ((with_f.members y).0 (new_in y h)) [ inl there ↦ there | inr right ↦ absurd (other (is_right edited y right)) ] in
        (with_f.members x).1 (inr (possible_among new edited x here is))

    pub known_in : (x k : Item) → IsKeyOf new x k → Contains f x
    known_in x k (of_item h e) = new_in x h
    known_in x k (of_possible h none e) = possible_in x h

    module _ (x k : Item) (key : IsKeyOf new x k) (n : ℕ) (relevant : HasRelevant u x n) (topics : List Topic) (o : IsOnce topics) (each : (t : Topic) → Contains topics t → DependsOn new x t) where
      standing_few : Contains new x → IsBySystem x ⊎ (¬ (IsBySystem x)) → length topics + 3 ≤ 5 * square n
      standing_few h (inr other) = depended_few u new x n topics new_spoken relevant (once_pairs topics o) (λ t ht. (each t ht, depended_there f new survive u new_spoken derived x t h (λ is. absurd (other is)) (each t ht)))
      standing_few h (inl is) =
          let object = standing_object f new u x is (survivor_supported f new survive x h) in
          let there = (relevant.1.members object.0).1 (new_spoken object.0 object.1, object.2) in
          let some : 0 < n = omega (arith, there.1, relevant.2) in
          system_topics_few new u (one_view new survive.order) new_spoken x n topics is relevant some (once_pairs topics o) each

      topics_few : length topics + 3 ≤ 5 * square n
      topics_few = by key
        where
          by : IsKeyOf new x k → length topics + 3 ≤ 5 * square n
          by (of_item h e) = standing_few h (by_system_or_not x)
          by (of_possible h none e) = system_topics_few new u (one_view new survive.order) new_spoken x n topics (by_system new x h) relevant (some_relevant new u new_spoken x n h relevant) (once_pairs topics o) each

    -- the links of what comes
    pub links_few : (x : Item) (a : Arrival) → IsArrivalOf new x a → (n : ℕ) → HasRelevant u x n → length (links_by a) ≤ 5 * square n
    links_few x a is n relevant =
        let picked = chosen (λ k t. (k ≡ topic_key t) × DependsOn new x t) (λ j k t e d. e.0 ∙ sym d.0) a.depends_on (order_once a.depends_on is.depends_on.order) (λ k h. let of = (is.depends_on.members k).0 h in (of.0, (of.2, of.1.0))) in
        let few = topics_few x a.key is.key n relevant picked.0 picked.1.once (λ t h. (picked.1.of t h).2.1) in
        let adds : List (Item × Item) = map (λ other. (a.key, other)) (option_to_list a.adds_to) in
        let under : List (Item × Item) = map (λ other. (other, a.key)) a.stands_under in
        let on_them : List (Item × Item) = map (λ other. (a.key, other)) a.depends_on in
        let whole : length (links_by a) ≡ length ((on_them ++ under) ++ adds) = refl in
        omega (
          arith,
          few,
          picked.1.size,
          whole,
          length-append (on_them ++ under) adds,
          length-append on_them under,
          length-map {B = Item × Item} a.depends_on (λ other. (a.key, other)),
          length-map {B = Item × Item} a.stands_under (λ other. (other, a.key)),
          length-map {B = Item × Item} (option_to_list a.adds_to) (λ other. (a.key, other)),
          length-option a.adds_to,
          at_most_two x a.stands_under is.stands_under,
        )
