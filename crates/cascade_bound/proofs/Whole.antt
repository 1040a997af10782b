-- All that it takes to make an edit ready is within its bound.
use Rattle.std.proofs.Common.{◌≡◌, ◌⊎◌, inl, Bool, true, false, ℕ, ◌+◌, ◌-◌, ◌≤◌, List, [], ◌∷◌, ◌++◌, length, refl, sym, ◌∙◌, ap, subst, arith}
use Rattle.std.specs.Prelude.{◌*◌, cond, map}
use Rattle.std.specs.List.{Contains, count_by, sum_by}
use Rattle.std.specs.Option.{option_to_list}
use Rattle.std.proofs.lemmas.List.{length-append, length-map}
use Rattle.std.proofs.lemmas.List.Sums.{sum_by-cons}
use Rattle.finite_chains.specs.Chains.{IsWithin}
use Rattle.finite_chains.proofs.Members.{Contains-head, Contains-tail}
use Rattle.item_index.specs.Graphs.{Graph, HasKey}
use Rattle.item_index.specs.Shelves.{list_at}
use Rattle.link_marks.specs.Reached.{look_ups}
use Rattle.cat_items.specs.declared.edit.Edit.{Edit}
use Rattle.cat_items.specs.declared.item.Item.{Item}
use Rattle.cat_items.specs.declared.item.Item.TheVariants as item
use Rattle.cat_items.specs.Bound.{IsBound, IsSpokenOf, Lists, square}
use Rattle.cat_items.specs.Fit.{IsFit}
use Rattle.cat_items.specs.Good.{IsGood}
use Rattle.cat_items.specs.Relevant.{Relevant}
use Rattle.cat_items.specs.Survivors.{AreSurvivors, IsSystemRight, IsWithSystem}
use Rattle.cascade_laws.specs.Topics.{DependsOn, Topic}
use Rattle.board_graph.specs.BoardKeys.{IsKeyOf, of_item, of_possible, topic_key}
use Rattle.board_plans.specs.declared.arrivals.Arrival.{Arrival}
use Rattle.board_plans.specs.Arrivals.{links_by}
use Rattle.board_plans.specs.Leaving.{AreOutgoing}
use Rattle.board_plans.specs.Leaving as leaving
use Rattle.board_plans.specs.Planning.{AreArrivals, IsArrivalOf}
use Rattle.board_changes.specs.Leaving.{look_ups_with}
use Rattle.edit_suspects.specs.Suspects.{AreFresh, is_suspect}
use Rattle.edit_suspects.specs.Seeds.{seed_look_ups}
use Rattle.edit_suspects.proofs.Finding.{at_most_two}
use Rattle.look_up_bound.specs.PossibleRights.{leads_on, rights_on}
use Rattle.look_up_bound.specs.Touched.{IsPaidBy}
use Rattle.look_up_bound.proofs.Counting.{IsOnce}
use Rattle.look_up_bound.proofs.Parts.{all_apart, is_part}
use Rattle.look_up_bound.proofs.Paying.{column_counts, routine_counts, view_counts}
use Rattle.look_up_bound.proofs.Sharp.{is_given, most_plain, most_topics}
use Rattle.look_up_bound.proofs.Squares.{most_by}
use Rattle.look_up_bound.proofs.ViewNeeds.{view_needs}
use Rattle.cascade_bound.specs.Judging.{JudgesWithin}
use Rattle.cascade_bound.specs.Marked.{AreTouchedOn}
use Rattle.cascade_bound.specs.Missing.{MissesNothing}
use Rattle.cascade_bound.proofs.Board as board
use Rattle.cascade_bound.proofs.Coming.{derived, known_in, length-option, new_spoken, suspect_of}
use Rattle.cascade_bound.proofs.Entries.{AreEntries, Entry, entries}
use Rattle.cascade_bound.proofs.Groups.{charged, chosen, split}
use Rattle.cascade_bound.proofs.Judging.{judging_few}
use Rattle.cascade_bound.proofs.Most.{alone_of, come_share, judging_share, link_share, links_most, possible_most, some, survivors_most}
use Rattle.cascade_bound.proofs.Nodes.{one_key}
use Rattle.cascade_bound.proofs.Orders.{order_once}
use Rattle.cascade_bound.proofs.Paid as paid
use Rattle.cascade_bound.proofs.Paid.{at_most_one, linear}
use Rattle.cascade_bound.proofs.Room.{column_room, given_room, one_costs, plain_room, routine_room, view_room}
use Rattle.cascade_bound.proofs.Suspects.{spoken}

-- ---- sums

sum_at_most : {X : Type 0} (f g : X → ℕ) (xs : List X) → ((x : X) → Contains xs x → f x ≤ g x) → sum_by f xs ≤ sum_by g xs
sum_at_most f g [] each = omega arith
sum_at_most f g (x ∷ xs) each = omega (arith, sum_at_most f g xs (λ y h. each y (Contains-tail x xs y h)), each x (Contains-head x xs), sum_by-cons f x xs, sum_by-cons g x xs)

four_sums : {X : Type 0} (f g h k : X → ℕ) (xs : List X) → sum_by f xs + sum_by g xs + sum_by h xs + sum_by k xs ≡ sum_by (λ x. f x + g x + h x + k x) xs
four_sums f g h k [] = refl
four_sums f g h k (x ∷ xs) = omega (arith, four_sums f g h k xs, sum_by-cons f x xs, sum_by-cons g x xs, sum_by-cons h x xs, sum_by-cons k x xs, sum_by-cons (λ y. f y + g y + h y + k y) x xs)

squares : (ns : List ℕ) → sum_by (λ n. 64 * square n) ns ≡ 64 * sum_by square ns
squares [] = refl
squares (n ∷ ns) = omega (arith, squares ns, sum_by-cons square n ns, sum_by-cons (λ m. 64 * square m) n ns)

-- ---- shares

abbrev share : Item × List Item → ℕ
share e = 64 * square (length e.1)

-- what a suspect pays beside the links of what it has and owes
abbrev rest : Item × List Item → ℕ
rest e = 20 + come_share e + judging_share e

-- what it owes
abbrev IsOwed : List Item → Item → Item → Type 0
IsOwed c p y = IsSystemRight c y × (¬ (Contains c y)) × IsPaidBy c p y

module _ (g : Graph Item) (c edited : List Item) (edit : Edit) (marks own : List ℕ) (on : AreTouchedOn g c edit marks own) (good : IsGood c) (fit : IsFit c edit edited) (most : ℕ) (b : IsBound c edit edited most) (misses : MissesNothing b.u edit) where
  abbrev u : List Item
  u = b.u

  within : IsWithin c u
  within y h = (b.spoken_of.members y).1 (inl h)

  spoken_of : (x : Item) → IsSpokenOf c edit edited x → Contains u x
  spoken_of x is = (b.spoken_of.members x).1 is

  abbrev all : (es : List (Entry u)) × AreEntries u b.suspects b.relevant es
  all = entries u b.suspects b.relevant b.counts

  entry_spoken : (e : Entry u) → Contains all.0 e → IsSpokenOf c edit edited e.0
  entry_spoken e h = (b.spoken_of.members e.0).0 (spoken c edited edit good fit most b e.0 ((b.are_suspects.members e.0).0 (all.1.of e h).0))

  abbrev HasAll : Item → List Item → Type 0
  HasAll x xs = Lists (λ y. Contains u y × Relevant u y x) xs

  -- ---- each suspect has room

  abbrev costs : Item → List Item → ℕ
  costs x xs = one_costs (length xs) (most_topics x xs) (some xs)

  given_by : (x : Item) (xs : List Item) → is_given x ≡ true → most_topics x xs ≡ 4 * length xs + 3
  given_by x xs e = ap (λ t. cond t (4 * length xs + 3) (most_by (length xs) (count_by is_part xs) (count_by leads_on xs))) e

  has_room : (x : Item) (xs : List Item) → IsSpokenOf c edit edited x → HasAll x xs → costs x xs ≤ 64 * square (length xs)
  has_room x [] is lists = subst (λ m. one_costs 0 m 0 ≤ 64) (sym (most_plain x [] (alone_of c edited u edit good fit spoken_of misses x is lists).given)) (omega arith)
  has_room x (y ∷ ys) is lists = by (y ∷ ys) (omega arith) (is_given x) refl
    where
      by : (xs : List Item) → 1 ≤ length xs → (t : Bool) → is_given x ≡ t → one_costs (length xs) (most_topics x xs) 1 ≤ 64 * square (length xs)
      by xs low true e = subst (λ m. one_costs (length xs) m 1 ≤ 64 * square (length xs)) (sym (given_by x xs e)) (given_room (length xs) low)
      by xs low false e = subst (λ m. one_costs (length xs) m 1 ≤ 64 * square (length xs)) (sym (most_plain x xs e)) (plain_room (length xs) (count_by is_part xs) (count_by leads_on xs) low (omega (arith, all_apart xs)))

  -- also with the rights for which it pays
  pays_room : (x : Item) (xs : List Item) → costs x xs ≤ 64 * square (length xs) → Contains c x → HasAll x xs → (y : Item) → IsOwed c x y → costs x xs + rights_on x * (8 * count_by leads_on xs + 55) ≤ 64 * square (length xs)
  pays_room (item.View v) xs room h lists y (is, none, pays) =
      let need = view_needs c good y v is none pays in
      let counts = view_counts c u good within xs v h need.0 need.1 lists in
      by xs refl counts.0 counts.1 counts.2
    where
      by : (ys : List Item) → xs ≡ ys → 1 ≤ count_by is_part xs → 1 ≤ count_by leads_on xs → count_by is_part xs + count_by leads_on xs + 2 ≤ length xs → costs (item.View v) xs + 8 * (8 * count_by leads_on xs + 55) ≤ 64 * square (length xs)
      by [] e part lead low = absurd (omega (arith, low, ap (λ (l : List Item). length l) e))
      by (z ∷ zs) e part lead low = subst (λ s. one_costs (length xs) (most_topics (item.View v) xs) s + 8 * (8 * count_by leads_on xs + 55) ≤ 64 * square (length xs)) (sym (ap some e)) (view_room (length xs) (count_by is_part xs) (count_by leads_on xs) part lead low)
  pays_room (item.Column k) xs room h lists y (is, none, pays) =
      let counts = column_counts c u good within xs k h lists in
      by xs refl counts.0 counts.1 counts.2
    where
      by : (ys : List Item) → xs ≡ ys → 1 ≤ count_by is_part xs → 1 ≤ count_by leads_on xs → count_by is_part xs + count_by leads_on xs + 1 ≤ length xs → costs (item.Column k) xs + 6 * (8 * count_by leads_on xs + 55) ≤ 64 * square (length xs)
      by [] e part lead low = absurd (omega (arith, low, ap (λ (l : List Item). length l) e))
      by (z ∷ zs) e part lead low = subst (λ s. one_costs (length xs) (most_topics (item.Column k) xs) s + 6 * (8 * count_by leads_on xs + 55) ≤ 64 * square (length xs)) (sym (ap some e)) (column_room (length xs) (count_by is_part xs) (count_by leads_on xs) part lead low)
  pays_room (item.Routine z) xs room h lists y (is, none, pays) =
      let counts = routine_counts c u good within xs z h lists in
      by xs refl counts.0 counts.1
    where
      by : (ys : List Item) → xs ≡ ys → 1 ≤ count_by leads_on xs → count_by is_part xs + count_by leads_on xs + 1 ≤ length xs → costs (item.Routine z) xs + 2 * (8 * count_by leads_on xs + 55) ≤ 64 * square (length xs)
      by [] e lead low = absurd (omega (arith, low, ap (λ (l : List Item). length l) e))
      by (w ∷ ws) e lead low = subst (λ s. one_costs (length xs) (most_topics (item.Routine z) xs) s + 2 * (8 * count_by leads_on xs + 55) ≤ 64 * square (length xs)) (sym (ap some e)) (routine_room (length xs) (count_by is_part xs) (count_by leads_on xs) lead low)
  pays_room _ xs room h lists y owed = omega (arith, room)

  -- ---- what a suspect has and owes

  abbrev links : ℕ → ℕ
  links n = length (list_at g.rests n)

  abbrev cost : ℕ → ℕ
  cost n = 4 * links n + 31

  abbrev IsIt : Item → ℕ → Type 0
  IsIt x n = (k : Item) × HasKey g n k × IsKeyOf c x k

  abbrev Owes : Item → ℕ → Type 0
  Owes p n = (y : Item) × IsIt y n × IsOwed c p y

  module _ (e : Entry u) (inside : Contains all.0 e) where
    abbrev lists : HasAll e.0 e.1
    lists = (all.1.of e inside).1

    it_few : (ns : List ℕ) → IsOnce ns → ((n : ℕ) → Contains ns n → IsIt e.0 n) → sum_by cost ns ≤ link_share e
    it_few ns o is = at_most_one cost (link_share e) ns o (λ m n hm hn. paid.it_once g c edited edit marks own on good fit most b e.0 m n (is m hm) (is n hn)) (λ n h.
        let it = is n h in
        omega (arith, links_most c edited u edit good fit spoken_of misses e.0 e.1 lists g on.whole on.full n it.0 it.1 it.2))

    pays : (ns : List ℕ) → IsOnce ns → ((n : ℕ) → Contains ns n → IsIt e.0 n ⊎ Owes e.0 n) → sum_by cost ns + rest e ≤ share e
    pays ns o is =
        let parts = split (IsIt e.0) (Owes e.0) ns is in
        let both = parts.2.once o in
        let its = it_few parts.0 both.0 (λ n h. (parts.2.left n h).1) in
        let owed = paid.owed_few g c edited edit marks own on good fit most b e.0 e.1 lists parts.1 both.1 (λ n h. (parts.2.right n h).1) in
        omega (arith, parts.2.sums cost, its, by parts.1 (λ n h. (parts.2.right n h).1) owed)
      where
        by : (ms : List ℕ) → ((n : ℕ) → Contains ms n → Owes e.0 n) → sum_by cost ms ≤ rights_on e.0 * (8 * count_by leads_on e.1 + 55) → link_share e + sum_by cost ms + rest e ≤ share e
        by [] owes few = omega (arith, has_room e.0 e.1 (entry_spoken e inside) lists)
        by (m ∷ ms) owes few =
            let one = owes m (Contains-head m ms) in
            omega (arith, few, pays_room e.0 e.1 (has_room e.0 e.1 (entry_spoken e inside) lists) one.2.2.stands lists one.0 one.2)

  -- the links of what is touched
  own_most : sum_by cost own ≤ sum_by (λ (e : Entry u). share e - rest e) all.0
  own_most = charged (λ (e : Entry u) (n : ℕ). IsIt e.0 n ⊎ Owes e.0 n) cost (λ (e : Entry u). share e - rest e) all.0 own (paid.own_once g c edited edit marks own on good fit most b) (paid.payer_of g c edited edit marks own on good fit most b) (λ e h group o inside.
      omega (arith, pays e h group o (λ n hn. (inside n hn).1)))

  abbrev judging : ℕ
  judging = sum_by judging_share all.0

  -- all shares together
  all_most : sum_by (λ (e : Entry u). share e - rest e) all.0 + sum_by (λ (e : Entry u). 20) all.0 + sum_by come_share all.0 + judging ≤ most
  all_most =
      omega (
        arith,
        four_sums (λ (e : Entry u). share e - rest e) (λ (e : Entry u). 20) come_share judging_share all.0,
        sum_at_most (λ (e : Entry u). (share e - rest e) + 20 + come_share e + judging_share e) share all.0 (λ e h. omega (arith, has_room e.0 e.1 (entry_spoken e h) (all.1.of e h).1)),
        all.1.sums (λ n. 64 * square n),
        squares b.relevant,
        b.is,
      )

  -- what takes no more look-ups than for any part that has all
  abbrev Takes : ℕ → Type 0
  Takes spent = JudgesWithin g c edit marks spent

  judged : (spent : ℕ) → Takes spent → spent ≤ judging
  judged spent takes = judging_few g c edited edit marks own on good fit most b misses spent takes

  -- what is touched is reached, its keys are read, and the suspects are judged
  pub judged_within : (spent : ℕ) → Takes spent → seed_look_ups edit + sum_by (look_ups g.dependents) marks + length marks + spent ≤ most
  judged_within spent takes =
      omega (
        arith,
        board.ticks g c edit marks own on,
        board.few g c edit marks own on,
        paid.taken_few g c edited edit marks own on good fit most b,
        linear links own,
        own_most,
        paid.added_paid g c edited edit marks own on good fit most b,
        all_most,
        judged spent takes,
      )

  -- ---- what comes

  module _ (f fresh new : List Item) (with_f : IsWithSystem edited f) (are_fresh : AreFresh c edited fresh) (survive : AreSurvivors f new) (arrivals : List Arrival) (are : AreArrivals new (is_suspect g marks edit.added fresh) arrivals) where
    spoken_new : IsWithin new u
    spoken_new = new_spoken g c edited f edit marks own on good fit most b fresh with_f are_fresh new survive

    module _ (x : Item) (xs : List Item) (lists : HasAll x xs) (a : Arrival) (is : IsArrivalOf new x a) where
      topics_most : (topics : List Topic) → IsOnce topics → ((t : Topic) → Contains topics t → DependsOn new x t) → length topics ≤ most_topics x xs + some xs
      topics_most topics o each = by is.key
        where
          by : IsKeyOf new x a.key → length topics ≤ most_topics x xs + some xs
          by (of_item h e) = survivors_most c edited u edit good fit spoken_of misses x xs lists new f spoken_new survive (derived g c edited f edit marks own on good fit most b fresh with_f are_fresh new survive) h topics o each
          by (of_possible h none e) = possible_most c edited u edit good fit spoken_of misses x xs lists new spoken_new survive.order h topics o each

      comes_most : length (links_by a) ≤ come_share (x, xs)
      comes_most =
          let picked = chosen (λ k t. (k ≡ topic_key t) × DependsOn new x t) (λ j k t e d. e.0 ∙ sym d.0) a.depends_on (order_once a.depends_on is.depends_on.order) (λ k h. let of = (is.depends_on.members k).0 h in (of.0, (of.2, of.1.0))) in
          let few = topics_most picked.0 picked.1.once (λ t h. (picked.1.of t h).2.1) in
          let adds : List (Item × Item) = map (λ other. (a.key, other)) (option_to_list a.adds_to) in
          let above : List (Item × Item) = map (λ other. (other, a.key)) a.stands_under in
          let on_them : List (Item × Item) = map (λ other. (a.key, other)) a.depends_on in
          let whole : length (links_by a) ≡ length ((on_them ++ above) ++ adds) = refl in
          omega (
            arith,
            few,
            picked.1.size,
            whole,
            length-append (on_them ++ above) adds,
            length-append on_them above,
            length-map {B = Item × Item} a.depends_on (λ other. (a.key, other)),
            length-map {B = Item × Item} a.stands_under (λ other. (other, a.key)),
            length-map {B = Item × Item} (option_to_list a.adds_to) (λ other. (a.key, other)),
            length-option a.adds_to,
            at_most_two x a.stands_under is.stands_under,
          )

    come : sum_by (λ a. length (links_by a)) arrivals ≤ sum_by come_share all.0
    come = charged (λ (e : Entry u) (a : Arrival). IsArrivalOf new e.0 a) (λ a. length (links_by a)) come_share all.0 arrivals (paid.arrivals_once g c edited edit marks own on good fit most b f fresh new with_f are_fresh survive arrivals are) (λ a h.
        let of = are.only a h in
        let inside = known_in g c edited f edit marks own on good fit most b fresh with_f are_fresh new survive of.0 a.key of.2.key in
        let e = all.1.has of.0 ((b.are_suspects.members of.0).1 (suspect_of g c edited f edit marks own on good fit most b fresh with_f are_fresh of.0 of.1 inside)) in
        (e.0, e.1, subst (λ y. IsArrivalOf new y a) (sym e.2) of.2)) (λ e h group o inside.
        at_most_one (λ (a : Arrival). length (links_by a)) (come_share e) group o
        (λ a d ha hd. let of_a = inside a ha in let of_d = inside d hd in paid.one_arrival g c edited edit marks own on good fit most b f fresh new with_f are_fresh survive arrivals are a d of_a.0 of_d.0 (one_key new e.0 a.key d.key of_a.1.key of_d.1.key))
        (λ a ha. comes_most e.0 e.1 (all.1.of e h).1 a (inside a ha).1))

    -- the plan is made too
    pub planned_within : (spent : ℕ) → Takes spent → seed_look_ups edit + sum_by (look_ups g.dependents) marks + length marks + spent + sum_by (leaving.look_ups g marks) marks + sum_by (λ a. length (links_by a)) arrivals ≤ most
    planned_within spent takes =
        omega (
          arith,
          board.ticks g c edit marks own on,
          board.few g c edit marks own on,
          board.plan_few g c edit marks own on,
          paid.taken_few g c edited edit marks own on good fit most b,
          linear links own,
          own_most,
          paid.added_paid g c edited edit marks own on good fit most b,
          come,
          all_most,
          judged spent takes,
        )

    -- and what goes out is read
    pub made_within : (spent : ℕ) → Takes spent → (out : List ℕ) → AreOutgoing g marks out
        → seed_look_ups edit + sum_by (look_ups g.dependents) marks + length marks + spent + sum_by (leaving.look_ups g marks) marks + sum_by (λ a. length (links_by a)) arrivals + sum_by (λ n. 1 + look_ups_with g n) out ≤ most
    made_within spent takes out outgoing =
        omega (
          arith,
          board.ticks g c edit marks own on,
          board.few g c edit marks own on,
          board.plan_few g c edit marks own on,
          board.goes g c edit marks own on out (board.go_out g c edit marks own on out outgoing),
          paid.taken_few g c edited edit marks own on good fit most b,
          linear links own,
          own_most,
          paid.added_paid g c edited edit marks own on good fit most b,
          come,
          all_most,
          judged spent takes,
        )
