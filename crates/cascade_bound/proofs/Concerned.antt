-- What a least part has is a suspect, or relevant to one.
use Rattle.std.proofs.Common.{◌≡◌, ◌⊎◌, ◌||◌, inl, inr, ℕ, Bool, true, List, Some, None, refl, sym, subst}
use Rattle.std.specs.Prelude.{Decides}
use Rattle.std.specs.Cmp.{Equal-is}
use Rattle.std.specs.List.{Contains, filter, flat_map}
use Rattle.std.specs.Ordering.{is_eq}
use Rattle.std.specs.declared.cmp.Ordering.TheVariants.{Equal}
use Rattle.std.proofs.lemmas.Bool.Decides.{Decides-or}
use Rattle.finite_chains.specs.Chains.{IsWithin}
use Rattle.finite_chains.proofs.Members.{Contains-filter, filter_passes_one}
use Rattle.item_index.specs.Graphs.{Graph, HasKey}
use Rattle.link_marks.specs.Reached.{first}
use Rattle.cat_items.specs.declared.edit.Edit.{Edit}
use Rattle.cat_items.specs.declared.item.Item.{Item}
use Rattle.cat_items.specs.declared.item.Item.TheVariants as item
use Rattle.cat_items.specs.Bound.{IsBound, IsSuspect}
use Rattle.cat_items.specs.Fit.{IsFit}
use Rattle.cat_items.specs.Good.{IsGood}
use Rattle.cat_items.specs.Order.{item_cmp}
use Rattle.cat_items.specs.Reach.{Has}
use Rattle.cat_items.specs.Relevant.{IsOptionOn, Relevant, without}
use Rattle.cat_items.proofs.KeyLemmas.{same_key}
use Rattle.support_laws.proofs.Decisions.{Decided, decided_has}
use Rattle.cascade_laws.specs.Topics.{IsUnder, Topic}
use Rattle.edit_rules.proofs.ItemKeys.{only_granted}
use Rattle.edit_laws.proofs.EditedLists.{one_by_key}
use Rattle.board_graph.specs.BoardKeys.{IsHelper, IsKeyOf, of_item, of_possible, topic_key}
use Rattle.board_graph.specs.Boards.{IsOwnTopic}
use Rattle.board_graph.proofs.Keys.{ghost_is_helper}
use Rattle.board_steps.proofs.Holding.{holds}
use Rattle.asked_parts.specs.Rounds.{HasAskedAll, IsClosed, option_of}
use Rattle.asked_parts.specs.Under.{IsUnderKey, IsUnmarked}
use Rattle.asked_parts.proofs.AskLaws.{asked_by_more}
use Rattle.edit_suspects.specs.Seeds as seeds
use Rattle.edit_suspects.proofs.GhostKeys.{possible_is_granted}
use Rattle.plain_needs.proofs.FlatMembers.{Contains-flat_map}
use Rattle.look_up_bound.proofs.AskedUnder.{under_asked}
use Rattle.look_up_bound.proofs.Counting.{Contains-from_flat_map}
use Rattle.look_up_bound.proofs.MoreAsked.{asks_more}
use Rattle.cascade_bound.specs.Marked.{AreTouchedOn}
use Rattle.cascade_bound.proofs.Asked.{rest_under}
use Rattle.cascade_bound.proofs.Entries.{AreEntries, Entry, entries}
use Rattle.cascade_bound.proofs.Nodes.{one_at, same_itself}
use Rattle.cascade_bound.proofs.Suspects.{spoken}

-- what an option adds to
added_to : (x y : Item) → option_of x ≡ Some y → IsOptionOn x y
added_to (item.Grantable r) y e = let is : item.Held r ≡ y = cc in subst (IsOptionOn (item.Grantable r)) is refl
added_to (item.RoleAdmin g) y e = let is : item.RoleAuth g ≡ y = cc in subst (IsOptionOn (item.RoleAdmin g)) is refl
added_to _ y e = absurd (none y e)
  where
    none : (y : Item) → None ≡ Some y → ⊥
    none y e = cc

-- whether an item of the list has the key can be told
key_in : (items : List Item) (y : Item) → Decided (Has items (λ z. item_cmp z y ≡ Equal))
key_in items y = decided_has (λ z. item_cmp z y ≡ Equal) (λ z. (is_eq (item_cmp z y), Equal-is (item_cmp z y))) items

module _ (g : Graph Item) (c edited : List Item) (edit : Edit) (marks own : List ℕ) (on : AreTouchedOn g c edit marks own) (good : IsGood c) (fit : IsFit c edit edited) (most : ℕ) (b : IsBound c edit edited most)
    (suspects part asked : List Item) (whole : HasAskedAll g marks suspects part asked) (are : (x : Item) → Contains suspects x → IsSuspect b.u edit x) where
  abbrev u : List Item
  u = b.u

  within : IsWithin c u
  within y h = (b.spoken_of.members y).1 (inl h)

  all : (es : List (Entry u)) × AreEntries u b.suspects b.relevant es
  all = entries u b.suspects b.relevant b.counts

  pub near : List Item
  near = flat_map (λ (e : Entry u). e.1) all.0

  in_near : (x y : Item) → IsSuspect u edit x → Contains u y → Relevant u y x → Contains near y
  unfolding near
  in_near x y suspect there concerns =
      let e = all.1.has x ((b.are_suspects.members x).1 suspect) in
      Contains-flat_map (λ (d : Entry u). d.1) all.0 e.0 y e.1 (((all.1.of e.0 e.1).1.members y).1 (there, subst (Relevant u y) (sym e.2) concerns))

  from_near : (y : Item) → Contains near y → (x : Item) × IsSuspect u edit x × Relevant u y x × Contains u y
  unfolding near
  from_near y h =
      let of = Contains-from_flat_map (λ (d : Entry u). d.1) all.0 y h in
      let e = all.1.of of.0 of.1 in
      (of.0.0, (b.are_suspects.members of.0.0).0 e.0, ((e.1.members y).0 of.2).1, ((e.1.members y).0 of.2).0)

  -- ---- unmarked items

  old : (y : Item) → IsUnmarked g marks y → Contains c y
  old y is = (holds g c on.no_helper on.full.board y).1 ((is.0, is.1.0), is.1.2)

  stays : (y : Item) → IsUnmarked g marks y → Contains edited y
  stays y is =
      let reached : seeds.IsSeedKey edit y → ⊥ = λ seed. is.1.1 ((on.touched.reached.exactly is.0).1 (first ((on.touched.seeds is.0).1 (y, seed, (y, is.1.0, same_itself y))))) in
      (fit.is_edited.members y).1 (inl (old y is, (λ h. reached (seeds.of_target h)), (λ h. reached (seeds.of_changed h))))

  -- what is spoken of and has its key is the item
  one_spoken : (z y : Item) → Contains u z → IsUnmarked g marks y → item_cmp z y ≡ Equal → z ≡ y
  one_spoken z y h is e = elim ((b.spoken_of.members z).0 h) [
    | inl there ↦ one_by_key c good.survivors.order z y there (old y is) e
    | inr (inl added) ↦ one_by_key edited fit.is_edited.order z y ((fit.is_edited.members z).1 (inr added)) (stays y is) e
    | inr (inr possible) ↦ only_granted z y (possible_is_granted edited z possible) e
  ]

  pub part_spoken : IsWithin part u
  part_spoken y h = elim (whole.way.from y h) [ inl suspect ↦ spoken c edited edit good fit most b y (are y suspect) | inr free ↦ within y (old y free) ]

  -- ---- what is concerned

  test : Item → Bool
  test y = (key_in suspects y).0 || (key_in near y).0

  test_is : (y : Item) → Decides (test y) (Has suspects (λ z. item_cmp z y ≡ Equal) ⊎ Has near (λ z. item_cmp z y ≡ Equal))
  unfolding test
  test_is y = Decides-or (key_in suspects y).0 (key_in near y).0 (key_in suspects y).1 (key_in near y).1

  concerned : List Item
  concerned = filter test part

  in_concerned : (y : Item) → Contains part y → Has suspects (λ z. item_cmp z y ≡ Equal) ⊎ Has near (λ z. item_cmp z y ≡ Equal) → Contains concerned y
  unfolding concerned
  in_concerned y h is = Contains-filter test part y h ((test_is y).1 is)

  of_concerned : (y : Item) → Contains concerned y → Contains part y × (test y ≡ true)
  unfolding concerned
  of_concerned y h = filter_passes_one test part y h

  within_part : IsWithin concerned part
  within_part y h = (of_concerned y h).0

  under_is : (k y : Item) (t : Topic) → IsOwnTopic t → k ≡ topic_key t → IsUnderKey g marks k y → IsUnder t y × IsUnmarked g marks y
  under_is k y t own_t e under =
      let n = under.0 in
      let m = under.2.0 in
      let free = under.2.2 in
      let of = rest_under g c on.no_helper on.whole on.full n m t own_t (subst (HasKey g n) e under.1) under.2.1 in
      let same_one : of.1.0 ≡ y = one_at g m of.1.0 y of.1.1 free.0 in
      (subst (IsUnder t) (by of.0 (subst (IsKeyOf c of.0) same_one of.1.2) free.2) of.1.3, (m, free))
    where
      by : (z : Item) → IsKeyOf c z y → (¬ (IsHelper y)) → z ≡ y
      by z (of_item h same_key) other = sym same_key
      by z (of_possible h none same_key) other = absurd (other (subst IsHelper (sym same_key) (ghost_is_helper c z h)))

  closed : IsClosed g marks suspects concerned
  closed = record {
    begun = record {
      has_suspects = λ x h. in_concerned x (whole.closed.begun.has_suspects x h) (inl (x, h, same_key x));
      options = λ x y h added. in_concerned y (whole.closed.begun.options x y h added) (inr (y, in_near x y (are x h) (within y (old y added.1)) (without (added_to x y added.0)), same_key y));
    };
    asked = λ k y h under.
        let t = h.2.0 in
        let is = under_is k y t h.2.1.1 h.2.2 under in
        let asks = asks_more concerned u (λ z hz. part_spoken z (within_part z hz)) h.0 t h.2.1.0 in
        in_concerned y (whole.closed.asked k y (asked_by_more concerned part within_part suspects k h) under) (inr (y, in_near h.0 y (are h.0 h.1) (within y (old y is.1)) (under_asked u h.0 y t asks is.0), same_key y));
  }

  pub part_concerned : (y : Item) → Contains part y → IsSuspect u edit y ⊎ ((x : Item) × IsSuspect u edit x × Relevant u y x)
  part_concerned y h = elim (whole.way.from y h) [
    | inl suspect ↦ inl (are y suspect)
    | inr free ↦ (elim ((test_is y).0 (of_concerned y (whole.least concerned closed y h)).1) [
      | inl there ↦ inl (subst (IsSuspect u edit) (one_by_key part whole.way.order there.0 y (whole.closed.begun.has_suspects there.0 there.1) h there.2) (are there.0 there.1))
      | inr there ↦
          let of = from_near there.0 there.1 in
          inr (of.0, of.1, subst (λ z. Relevant u z of.0) (one_spoken there.0 y of.3 free there.2) of.2)
    ])
  ]
