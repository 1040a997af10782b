-- What an edit touches on a board, found, read and taken out, and what comes, is within the bound.
use Rattle.std.proofs.Common.{◌≡◌, ◌⊎◌, inl, inr, ℕ, ◌+◌, ◌-◌, ◌≤◌, true, List, [], ◌∷◌, ◌++◌, length, get_or, refl, sym, ◌∙◌, ap, subst, arith}
use Rattle.std.specs.Prelude.{◌≢◌, ◌*◌}
use Rattle.std.specs.List.{AllPairs, Contains, count_by, sum_by}
use Rattle.std.proofs.lemmas.Bool.{cases_lt}
use Rattle.std.proofs.lemmas.List.{get_or_default, length-append}
use Rattle.std.proofs.lemmas.List.Elements.{Contains-append_cases}
use Rattle.std.proofs.lemmas.List.Sums.{sum_by-cons}
use Rattle.finite_chains.specs.Chains.{IsWithin}
use Rattle.finite_chains.proofs.Members.{Contains-nil, Contains-head, Contains-tail}
use Rattle.item_index.specs.Graphs.{Graph, HasKey}
use Rattle.item_index.specs.Shelves.{list_at}
use Rattle.link_marks.specs.Reached.{first, look_ups}
use Rattle.cat_items.specs.contracts.item.ItemPartialEq.TheImpl as same
use Rattle.cat_items.specs.declared.edit.Edit.{Edit}
use Rattle.cat_items.specs.declared.item.Item.{Item}
use Rattle.cat_items.specs.declared.item.Item.TheVariants as item
use Rattle.cat_items.specs.Bound.{HasRelevant, IsBound, IsSuspect, Lists, square}
use Rattle.cat_items.specs.Bound as bound
use Rattle.cat_items.specs.Fit.{IsFit}
use Rattle.cat_items.specs.Good.{IsGood}
use Rattle.cat_items.specs.Relevant.{Relevant, named}
use Rattle.cat_items.specs.Survivors.{AreSurvivors, IsSystemRight, IsWithSystem}
use Rattle.board_graph.specs.BoardKeys.{IsKeyOf, of_item, of_possible}
use Rattle.board_plans.specs.declared.arrivals.Arrival.{Arrival}
use Rattle.board_plans.specs.Arrivals.{links_by}
use Rattle.board_plans.specs.Leaving.{AreOutgoing}
use Rattle.board_plans.specs.Leaving as leaving
use Rattle.board_plans.specs.Planning.{AreArrivals, IsArrivalOf}
use Rattle.board_changes.specs.Leaving.{look_ups_with}
use Rattle.edit_suspects.specs.Suspects.{AreFresh, is_suspect}
use Rattle.edit_suspects.specs.Seeds.{seed_look_ups}
use Rattle.edit_suspects.specs.Seeds as seeds
use Rattle.look_up_bound.specs.PossibleRights.{leads_on, rights_on}
use Rattle.look_up_bound.specs.Touched.{IsPaidBy, IsPaidFor}
use Rattle.look_up_bound.proofs.Counting.{IsOnce, no_longer, once, once_append}
use Rattle.look_up_bound.proofs.Paying.{column_pays_for_six, routine_pays_for_two, view_pays_for_eight}
use Rattle.look_up_bound.proofs.RightsOn.{paid_for}
use Rattle.look_up_bound.proofs.Touching.{touched_is_suspect}
use Rattle.look_up_bound.proofs.ViewNeeds.{view_needs}
use Rattle.cascade_bound.specs.Marked.{AreTouchedOn}
use Rattle.cascade_bound.proofs.Board as board
use Rattle.cascade_bound.proofs.Coming.{known_in, suspect_of}
use Rattle.cascade_bound.proofs.Coming as coming
use Rattle.cascade_bound.proofs.Entries.{AreEntries, Entry, entries}
use Rattle.cascade_bound.proofs.Groups.{charged, chosen, split}
use Rattle.cascade_bound.proofs.Items.{links_few, links_paid, once_pairs}
use Rattle.cascade_bound.proofs.Orders.{order_once}
use Rattle.cascade_bound.proofs.Nodes.{one_at, one_key, same_itself}
use Rattle.cascade_bound.proofs.Reached.{known_touched, tells_changed, tells_target}

-- ---- sums

-- a list without repeats whose items are all one
pub at_most_one : {X : Type 0} (f : X → ℕ) (most : ℕ) (xs : List X) → IsOnce xs → ((a b : X) → Contains xs a → Contains xs b → a ≡ b) → ((x : X) → Contains xs x → f x ≤ most) → sum_by f xs ≤ most
at_most_one f most [] o one each = omega arith
at_most_one f most (x ∷ []) o one each = omega (arith, each x (Contains-head x []), sum_by-cons f x [])
at_most_one f most (x ∷ y ∷ xs) o one each = absurd (o.0 (subst (Contains (y ∷ xs)) (one y x (Contains-tail x (y ∷ xs) y (Contains-head y xs)) (Contains-head x (y ∷ xs))) (Contains-head y xs)))

pub linear : (f : ℕ → ℕ) (xs : List ℕ) → sum_by (λ n. 4 * f n + 31) xs ≡ 4 * sum_by f xs + 31 * length xs
linear f [] = refl
linear f (x ∷ xs) = omega (arith, linear f xs, sum_by-cons f x xs, sum_by-cons (λ n. 4 * f n + 31) x xs)

times_all : {X : Type 0} (k : ℕ) (xs : List X) → sum_by (λ x. k) xs ≡ k * length xs
times_all k [] = omega arith
times_all k (x ∷ xs) = omega (arith, times_all k xs, sum_by-cons (λ y. k) x xs)

three_sums : {X : Type 0} (f g h all : X → ℕ) (xs : List X) → ((x : X) → f x + g x + h x ≤ all x) → sum_by f xs + sum_by g xs + sum_by h xs ≤ sum_by all xs
three_sums f g h all [] each = omega arith
three_sums f g h all (x ∷ xs) each = omega (arith, three_sums f g h all xs each, each x, sum_by-cons f x xs, sum_by-cons g x xs, sum_by-cons h x xs, sum_by-cons all x xs)

pub some_square : (n : ℕ) → 1 ≤ square n
some_square n = omega arith

most_of_all : (ns : List ℕ) → sum_by (λ n. 64 * square n) ns ≡ 64 * sum_by square ns
most_of_all [] = refl
most_of_all (n ∷ ns) = omega (arith, most_of_all ns, sum_by-cons square n ns, sum_by-cons (λ m. 64 * square m) n ns)

-- ---- what one suspect pays

module _ (c u : List Item) (good : IsGood c) (within : IsWithin c u) (rel : List Item) where
  abbrev leads : ℕ
  leads = count_by leads_on rel

  abbrev sq : ℕ
  sq = square (length rel)

  no_topics : AllPairs {X = ℕ} (λ a b. a ≢ b) []
  no_topics = once_pairs [] tt

  -- with its own links it pays for those of the rights on it
  extra_few : (p x : Item) → Contains c p → Lists (λ y. Contains u y × Relevant u y p) rel → IsSystemRight c x → (¬ (Contains c x)) → IsPaidBy c p x → (rights : ℕ) → rights ≤ rights_on p * (8 * leads + 55) → 20 * sq + 19 + rights ≤ 59 * sq - 20
  extra_few (item.View v) x h lists is none paid rights few =
      let need = view_needs c good x v is none paid in
      let pays = view_pays_for_eight c u c good within within rel [] (once_pairs [] tt) 0 0 0 20 (omega arith) (omega arith) (omega arith) (omega arith) v h need.0 need.1 lists (λ t there. absurd (Contains-nil t there)) in
      omega (arith, pays, few)
  extra_few (item.Column k) x h lists is none paid rights few =
      let pays = column_pays_for_six c u c good within within rel [] (once_pairs [] tt) 0 0 0 20 (omega arith) (omega arith) (omega arith) (omega arith) k h lists (λ t there. absurd (Contains-nil t there)) in
      omega (arith, pays, few)
  extra_few (item.Routine z) x h lists is none paid rights few =
      let pays = routine_pays_for_two c u c good within within rel [] (once_pairs [] tt) 0 0 0 20 (omega arith) (omega arith) (omega arith) (omega arith) z h lists (λ t there. absurd (Contains-nil t there)) in
      omega (arith, pays, few)
  extra_few _ x h lists is none paid rights few = omega (arith, few, some_square (length rel))

module _ (g : Graph Item) (c edited : List Item) (edit : Edit) (marks own : List ℕ) (on : AreTouchedOn g c edit marks own) (good : IsGood c) (fit : IsFit c edit edited) (most : ℕ) (b : IsBound c edit edited most) where
  abbrev u : List Item
  u = b.u

  within : IsWithin c u
  within y h = (b.spoken_of.members y).1 (inl h)

  abbrev links : ℕ → ℕ
  links n = length (list_at g.rests n)

  abbrev cost : ℕ → ℕ
  cost n = 4 * links n + 31

  abbrev all : (es : List (Entry u)) × AreEntries u b.suspects b.relevant es
  all = entries u b.suspects b.relevant b.counts

  -- the number is of the item
  abbrev IsIt : Item → ℕ → Type 0
  IsIt x n = (k : Item) × HasKey g n k × IsKeyOf c x k

  pub it_once : (x : Item) (m n : ℕ) → IsIt x m → IsIt x n → m ≡ n
  it_once x m n (j, at, key) (k, at2, key2) = on.whole.distinct m n j k at at2 (subst (λ i. same.ghosts.eq j i ≡ true) (one_key c x j k key key2) (same_itself j))

  -- a right that the system could grant, that doesn't stand, and for which the item pays
  abbrev IsOwing : Item → Item → Type 0
  IsOwing p y = IsSystemRight c y × (¬ (Contains c y)) × IsPaidBy c p y

  abbrev Owes : Item → ℕ → Type 0
  Owes p n = (y : Item) × IsIt y n × IsOwing p y

  -- ---- what is charged to one suspect

  module _ (p : Item) (rel : List Item) (lists : Lists (λ y. Contains u y × Relevant u y p) rel) where
    it_few : (ns : List ℕ) → IsOnce ns → ((n : ℕ) → Contains ns n → IsIt p n) → sum_by cost ns ≤ 20 * square (length rel) + 19
    it_few ns o is = at_most_one cost (20 * square (length rel) + 19) ns o (λ m n hm hn. it_once p m n (is m hm) (is n hn)) (λ n h.
        let it = is n h in
        omega (arith, links_few g c u good on.whole on.full within n p it.0 it.1 it.2 (length rel) (rel, lists, refl)))

    pub owed_few : (ns : List ℕ) → IsOnce ns → ((n : ℕ) → Contains ns n → Owes p n) → sum_by cost ns ≤ rights_on p * (8 * count_by leads_on rel + 55)
    owed_few ns o is =
        let most_links = 8 * count_by leads_on rel + 55 in
        let picked = chosen (λ n y. IsIt y n × IsOwing p y) (λ m n y im in_n. it_once y m n im.0 in_n.0) ns o (λ n h. let owes = is n h in (owes.0, (owes.1, owes.2))) in
        let each = picked.1.sums cost (λ y. most_links) (λ n y h (it, owing). omega (arith, links_paid g c u good on.whole on.full within n y it.0 it.1 it.2 p owing.2 rel lists)) in
        let paid = paid_for c good picked.0 (p ∷ []) (λ y. p) (λ y. most_links) (once_pairs picked.0 picked.1.once) (λ y h. let of = (picked.1.of y h).2.1 in (of.0, of.1, of.2, Contains-head p [])) in
        omega (arith, each, paid, sum_by-cons (λ q. rights_on q * most_links) p [])

    pays : (ns : List ℕ) → IsOnce ns → ((n : ℕ) → Contains ns n → IsIt p n ⊎ Owes p n) → sum_by cost ns ≤ 59 * square (length rel) - 20
    pays ns o is =
        let parts = split (IsIt p) (Owes p) ns is in
        let both = parts.2.once o in
        let its = it_few parts.0 both.0 (λ n h. (parts.2.left n h).1) in
        let owed = owed_few parts.1 both.1 (λ n h. (parts.2.right n h).1) in
        omega (arith, parts.2.sums cost, its, by parts.1 (λ n h. (parts.2.right n h).1) owed)
      where
        by : (ms : List ℕ) → ((n : ℕ) → Contains ms n → Owes p n) → sum_by cost ms ≤ rights_on p * (8 * count_by leads_on rel + 55) → 20 * square (length rel) + 19 + sum_by cost ms ≤ 59 * square (length rel) - 20
        by [] owes few = omega (arith, some_square (length rel))
        by (m ∷ ms) owes few =
            let one = owes m (Contains-head m ms) in
            extra_few c u good within rel p one.0 one.2.2.stands lists one.2.0 one.2.1 one.2.2 (sum_by cost (m ∷ ms)) few

  -- ---- who pays

  pub payer_of : (n : ℕ) → Contains own n → (e : Entry u) × Contains all.0 e × (IsIt e.0 n ⊎ Owes e.0 n)
  payer_of n h =
      let known = (on.known.exactly n).0 h in
      let x = known.1.0 in
      let k = known.1.1 in
      let touched = known_touched g c edited edit marks own on good fit n x k known.0 known.1.2 known.1.3 in
      elim (touched_is_suspect u c edit edited fit b.spoken_of.members (tells_target g c edited edit marks own on good fit) (tells_changed g c edited edit marks own on good fit) x touched) [
        | inl suspect ↦ itself x k known.1.2 known.1.3 suspect.1
        | inr paid ↦ other x k known.1.2 known.1.3 known.1.3 paid
      ]
    where
      itself : (x k : Item) → HasKey g n k → IsKeyOf c x k → IsSuspect u edit x → (e : Entry u) × Contains all.0 e × (IsIt e.0 n ⊎ Owes e.0 n)
      itself x k has key suspect =
          let e = all.1.has x ((b.are_suspects.members x).1 suspect) in
          (e.0, e.1, inl (subst (λ y. IsIt y n) (sym e.2) (k, has, key)))

      other : (x k : Item) → HasKey g n k → IsKeyOf c x k → IsKeyOf c x k → IsPaidFor u c edit x → (e : Entry u) × Contains all.0 e × (IsIt e.0 n ⊎ Owes e.0 n)
      other x k has key (of_item there is) paid =
          itself x k has key (bound.spread paid.payer x paid.suspect (within paid.payer paid.pays.stands) (within x there) (elim paid.pays.is [
            | inl same_one ↦ subst (λ y. Relevant u paid.payer y) (sym same_one) (named (inl paid.pays.is_part))
            | inr same_one ↦ subst (λ y. Relevant u paid.payer y) (sym same_one) (named (inl paid.pays.is_part))
          ]))
      other x k has key (of_possible possible none is) paid =
          let e = all.1.has paid.payer ((b.are_suspects.members paid.payer).1 paid.suspect) in
          (e.0, e.1, inr (x, (k, has, key), (possible, none, subst (λ p. IsPaidBy c p x) (sym e.2) paid.pays)))

  pub own_once : IsOnce own
  own_once = once own on.known.once

  own_paid : sum_by cost own ≤ sum_by (λ (e : Entry u). 59 * square (length e.1) - 20) all.0
  own_paid = charged (λ (e : Entry u) (n : ℕ). IsIt e.0 n ⊎ Owes e.0 n) cost (λ (e : Entry u). 59 * square (length e.1) - 20) all.0 own (once own on.known.once) payer_of (λ e h group o inside.
      let of = all.1.of e h in pays e.0 e.1 of.1 group o (λ n hn. (inside n hn).1))

  pub added_paid : 20 * length edit.added ≤ sum_by (λ (e : Entry u). 20) all.0
  added_paid =
      let each = charged (λ (e : Entry u) (x : Item). e.0 ≡ x) (λ x. 20) (λ (e : Entry u). 20) all.0 edit.added (order_once edit.added fit.added_order) (λ x h.
      let e = all.1.has x ((b.are_suspects.members x).1 (bound.of_added x h)) in (e.0, e.1, e.2)) (λ e h group o inside. at_most_one (λ x. 20) 20 group o (λ a z ha hz. sym (inside a ha).1 ∙ (inside z hz).1) (λ x hx. omega arith)) in
      omega (arith, each, times_all 20 edit.added)

  -- ---- together

  marked_once : (some : List Item) → IsOnce some → IsWithin some c → ((x : Item) → Contains some x → seeds.IsSeedKey edit x) → length some ≤ length own
  marked_once some o in_c seed =
      let picked = chosen (λ x n. HasKey g n x × Contains marks n) (λ x y n hx hy. one_at g n x y hx.0 hy.0) some o (λ x h.
      let at = on.full.board.items x x (of_item (in_c x h) refl) in
      (at.0, (at.1, (on.touched.reached.exactly at.0).1 (first ((on.touched.seeds at.0).1 (x, seed x h, (x, at.1, same_itself x))))))) in
      omega (arith, picked.1.size, no_longer picked.0 own picked.1.once (λ n h. let of = picked.1.of n h in (on.known.exactly n).1 (of.2.1, (of.0, of.0, of.2.0, of_item (in_c of.0 of.1) refl))))

  -- what the edit destroys and changes
  pub taken_few : length edit.target + length edit.changed ≤ length own
  taken_few =
      let both = edit.target ++ edit.changed in
      let apart = once_append edit.target edit.changed (order_once edit.target fit.target_order) (order_once edit.changed fit.changed_order) (λ x t h. (fit.apart x h).0 t) in
      let in_c : IsWithin both c = λ x h. elim (Contains-append_cases edit.target edit.changed x h) [ inl t ↦ fit.target x t | inr h ↦ fit.changed x h ] in
      let seed : (x : Item) → Contains both x → seeds.IsSeedKey edit x = λ x h. elim (Contains-append_cases edit.target edit.changed x h) [ inl t ↦ seeds.of_target t | inr h ↦ seeds.of_changed h ] in
      omega (arith, marked_once both apart in_c seed, length-append edit.target edit.changed)

  two_sums : (f g all : Entry u → ℕ) (es : List (Entry u)) → ((e : Entry u) → f e + g e ≤ all e) → sum_by f es + sum_by g es ≤ sum_by all es
  two_sums f g all [] each = omega arith
  two_sums f g all (e ∷ es) each = omega (arith, two_sums f g all es each, each e, sum_by-cons f e es, sum_by-cons g e es, sum_by-cons all e es)

  -- what is touched is reached, and its keys are read
  pub begins_within : seed_look_ups edit + sum_by (look_ups g.dependents) marks + length marks ≤ most
  begins_within =
      omega (
        arith,
        board.ticks g c edit marks own on,
        board.few g c edit marks own on,
        taken_few,
        linear links own,
        own_paid,
        added_paid,
        two_sums (λ (e : Entry u). 59 * square (length e.1) - 20) (λ e. 20) (λ (e : Entry u). 64 * square (length e.1)) all.0 (λ e. omega (arith, some_square (length e.1))),
        all.1.sums (λ n. 64 * square n),
        most_of_all b.relevant,
        b.is,
      )

  -- ---- what comes

  module _ (f fresh new : List Item) (with_f : IsWithSystem edited f) (are_fresh : AreFresh c edited fresh) (survive : AreSurvivors f new) (arrivals : List Arrival) (are : AreArrivals new (is_suspect g marks edit.added fresh) arrivals) where
    -- one arrival has a key
    pub one_arrival : (a d : Arrival) → Contains arrivals a → Contains arrivals d → a.key ≡ d.key → a ≡ d
    one_arrival a d (i, wi, ei) (j, wj, ej) e = elim (cases_lt i j) [
      | inl before ↦ absurd (are.once i j a before wj (ap (λ (z : Arrival). z.key) ei ∙ e ∙ sym (ap (λ (z : Arrival). z.key) (get_or_default arrivals j a d wj ∙ ej))))
      | inr later ↦ (elim (cases_lt j i) [
        | inl after ↦ absurd (are.once j i d after wi (ap (λ (z : Arrival). z.key) ej ∙ sym e ∙ sym (ap (λ (z : Arrival). z.key) (get_or_default arrivals i d a wi ∙ ei))))
        | inr same_place ↦
            let at : i ≡ j = omega (arith, later, same_place) in
            sym ei ∙ ap (λ k. get_or arrivals k a) at ∙ get_or_default arrivals j a d wj ∙ ej
      ])
    ]

    pub arrivals_once : IsOnce arrivals
    arrivals_once = once arrivals (λ i j d low high e. are.once i j d low high (ap (λ (z : Arrival). z.key) e))

    comes_paid : sum_by (λ a. length (links_by a)) arrivals ≤ sum_by (λ (e : Entry u). 5 * square (length e.1)) all.0
    comes_paid = charged (λ (e : Entry u) (a : Arrival). IsArrivalOf new e.0 a) (λ a. length (links_by a)) (λ (e : Entry u). 5 * square (length e.1)) all.0 arrivals arrivals_once (λ a h.
        let of = are.only a h in
        let inside = known_in g c edited f edit marks own on good fit most b fresh with_f are_fresh new survive of.0 a.key of.2.key in
        let e = all.1.has of.0 ((b.are_suspects.members of.0).1 (suspect_of g c edited f edit marks own on good fit most b fresh with_f are_fresh of.0 of.1 inside)) in
        (e.0, e.1, subst (λ y. IsArrivalOf new y a) (sym e.2) of.2)) (λ e h group o inside.
        at_most_one (λ (a : Arrival). length (links_by a)) (5 * square (length e.1)) group o
        (λ a d ha hd. let of_a = inside a ha in let of_d = inside d hd in one_arrival a d of_a.0 of_d.0 (one_key new e.0 a.key d.key of_a.1.key of_d.1.key))
        (λ a ha. coming.links_few g c edited f edit marks own on good fit most b fresh with_f are_fresh new survive e.0 a (inside a ha).1 (length e.1) (e.1, (all.1.of e h).1, refl)))

    -- the plan is made of what is touched and of what comes
    pub comes_within : seed_look_ups edit + sum_by (look_ups g.dependents) marks + length marks + sum_by (leaving.look_ups g marks) marks + sum_by (λ a. length (links_by a)) arrivals ≤ most
    comes_within =
        omega (
          arith,
          board.ticks g c edit marks own on,
          board.few g c edit marks own on,
          board.plan_few g c edit marks own on,
          taken_few,
          linear links own,
          own_paid,
          added_paid,
          comes_paid,
          three_sums (λ (e : Entry u). 59 * square (length e.1) - 20) (λ e. 20) (λ (e : Entry u). 5 * square (length e.1)) (λ (e : Entry u). 64 * square (length e.1)) all.0 (λ e. omega (arith, some_square (length e.1))),
          all.1.sums (λ n. 64 * square n),
          most_of_all b.relevant,
          b.is,
        )

    -- and what goes out is read
    pub within_bound : (out : List ℕ) → AreOutgoing g marks out
        → seed_look_ups edit + sum_by (look_ups g.dependents) marks + length marks + sum_by (leaving.look_ups g marks) marks + sum_by (λ a. length (links_by a)) arrivals + sum_by (λ n. 1 + look_ups_with g n) out ≤ most
    within_bound out outgoing =
        omega (
          arith,
          board.ticks g c edit marks own on,
          board.few g c edit marks own on,
          board.plan_few g c edit marks own on,
          board.goes g c edit marks own on out (board.go_out g c edit marks own on out outgoing),
          taken_few,
          linear links own,
          own_paid,
          added_paid,
          comes_paid,
          three_sums (λ (e : Entry u). 59 * square (length e.1) - 20) (λ e. 20) (λ (e : Entry u). 5 * square (length e.1)) (λ (e : Entry u). 64 * square (length e.1)) all.0 (λ e. omega (arith, some_square (length e.1))),
          all.1.sums (λ n. 64 * square n),
          most_of_all b.relevant,
          b.is,
        )
