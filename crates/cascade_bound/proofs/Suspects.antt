-- What all suspects ask for, and the rights that the system could grant for their part, are within the bound.
use Rattle.std.proofs.Common.{◌≡◌, ◌⊎◌, inl, inr, ℕ, zero, suc, ◌+◌, ◌<◌, ◌≤◌, List, [], ◌∷◌, length, refl, sym, ◌∙◌, subst, arith}
use Rattle.std.specs.Prelude.{◌≢◌, ◌*◌}
use Rattle.std.specs.List.{AllPairs, Contains, sum_by}
use Rattle.std.proofs.lemmas.List.Sums.{sum_by-cons}
use Rattle.finite_chains.specs.Chains.{IsWithin}
use Rattle.item_index.specs.Graphs.{Graph, IsWhole}
use Rattle.sql_names.specs.declared.object.Object.{Object}
use Rattle.cat_items.specs.contracts.item.ItemPartialEq.TheImpl as same
use Rattle.cat_items.specs.declared.edit.Edit.{Edit}
use Rattle.cat_items.specs.declared.item.Item.{Item}
use Rattle.cat_items.specs.declared.item.Item.TheVariants as item
use Rattle.cat_items.specs.Bound.{HasRelevant, IsBound, IsSuspect, Lists, square}
use Rattle.cat_items.specs.Bound as bound
use Rattle.cat_items.specs.Fit.{IsFit}
use Rattle.cat_items.specs.Good.{IsGood}
use Rattle.cat_items.specs.Relevant.{Relevant}
use Rattle.cat_items.specs.Survivors.{IsSystemRight}
use Rattle.cascade_laws.specs.Asks.{Asks}
use Rattle.cascade_laws.specs.Topics.{Topic}
use Rattle.board_steps.specs.Plans.{IsFullBoard}
use Rattle.board_steps.proofs.Edited.{good_apart}
use Rattle.topic_lists.specs.Sought.{IsAskedFor}
use Rattle.asked_parts.specs.Parts.{IsAskedBy}
use Rattle.asked_parts.specs.Under.{look_ups}
use Rattle.look_up_bound.specs.PossibleRights.{IsBySystem}
use Rattle.look_up_bound.proofs.Counting.{IsOnce, no_more}
use Rattle.look_up_bound.proofs.Few.{asked_few}
use Rattle.look_up_bound.proofs.Survivor.{survivor_supported}
use Rattle.look_up_bound.proofs.TableTopics.{table_asks_few}
use Rattle.cascade_bound.specs.Granted.{granted_on}
use Rattle.cascade_bound.specs.Missing.{LacksNothing}
use Rattle.cascade_bound.proofs.Asking.{old_asks_few}
use Rattle.cascade_bound.proofs.Coming.{by_system_or_not, standing_object}
use Rattle.cascade_bound.proofs.Entries.{AreEntries, Entry, entries}
use Rattle.cascade_bound.proofs.Groups.{charged, split}
use Rattle.cascade_bound.proofs.Items.{by_system, right_object}
use Rattle.cascade_bound.proofs.Keys.{keys_few}
use Rattle.cascade_bound.proofs.Orders.{order_once}
use Rattle.cascade_bound.proofs.Paid.{at_most_one}
use Rattle.cascade_bound.proofs.Possible.{rights_few}
use Rattle.cascade_bound.proofs.SystemAsking.{system_asks_few}

pub table_or_not : (x : Item) → ((o : Object) × (x ≡ item.Table o)) ⊎ ((o : Object) → x ≢ item.Table o)
table_or_not (item.Table o) = inl (o, refl)
table_or_not (item.User n) = inr (λ o e. cc)
table_or_not (item.Role n) = inr (λ o e. cc)
table_or_not (item.Schema z) = inr (λ o e. cc)
table_or_not (item.View v) = inr (λ o e. cc)
table_or_not (item.Column k) = inr (λ o e. cc)
table_or_not (item.Domain d) = inr (λ o e. cc)
table_or_not (item.DomainCheck d) = inr (λ o e. cc)
table_or_not (item.Key k) = inr (λ o e. cc)
table_or_not (item.Foreign f) = inr (λ o e. cc)
table_or_not (item.Check k) = inr (λ o e. cc)
table_or_not (item.Assertion z) = inr (λ o e. cc)
table_or_not (item.Routine z) = inr (λ o e. cc)
table_or_not (item.RoleAuth g) = inr (λ o e. cc)
table_or_not (item.RoleAdmin g) = inr (λ o e. cc)
table_or_not (item.Held r) = inr (λ o e. cc)
table_or_not (item.Grantable r) = inr (λ o e. cc)

pub granted_few : (y : Item) → granted_on y ≤ 10
granted_few (item.Table o) = omega arith
granted_few (item.View v) = omega arith
granted_few (item.Column k) = omega arith
granted_few (item.Domain d) = omega arith
granted_few (item.Routine z) = omega arith
granted_few _ = omega arith

pub at_most : {X : Type 0} (f : X → ℕ) (most : ℕ) (xs : List X) → ((x : X) → f x ≤ most) → sum_by f xs ≤ most * length xs
at_most f most [] each = omega arith
at_most f most (x ∷ xs) each = omega (arith, at_most f most xs each, each x, sum_by-cons f x xs)

each_within : (f : ℕ → ℕ) (ns : List ℕ) → ((n : ℕ) → f n ≤ 64 * square n) → sum_by f ns ≤ 64 * sum_by square ns
each_within f [] each = omega arith
each_within f (n ∷ ns) each = omega (arith, each_within f ns each, each n, sum_by-cons f n ns, sum_by-cons square n ns)

-- how many topics an item asks for at most
abbrev pub few_asks : ℕ → ℕ
few_asks zero = 5
few_asks (suc n) = 5 * square (suc n) + 3

many_asks : (n asks : ℕ) → 0 < n → asks ≤ 5 * square n + 3 → asks ≤ few_asks n
many_asks zero asks some few = absurd (omega (arith, some))
many_asks (suc n) asks some few = few

some_asks : (n asks : ℕ) → asks ≤ 5 * square n → asks ≤ few_asks n
some_asks zero asks few = omega (arith, few)
some_asks (suc n) asks few = omega (arith, few)

asks_within : (n : ℕ) → 6 * few_asks n + 4 * n ≤ 64 * square n
asks_within zero = omega arith
asks_within (suc n) = omega arith

module _ (c edited : List Item) (edit : Edit) (good : IsGood c) (fit : IsFit c edit edited) (most : ℕ) (b : IsBound c edit edited most) where
  abbrev u : List Item
  u = b.u

  within : IsWithin c u
  within y h = (b.spoken_of.members y).1 (inl h)

  pub spoken : (x : Item) → IsSuspect u edit x → Contains u x
  spoken _ (bound.of_target x h) = within x (fit.target x h)
  spoken _ (bound.of_changed x h) = within x (fit.changed x h)
  spoken _ (bound.of_added x h) = (b.spoken_of.members x).1 (inr (inl h))
  spoken _ (bound.spread y x is hy hx relevant) = hx

  module _ (part : List Item) (lacks : LacksNothing b.u part edit) where
    -- ---- how many topics a suspect asks for

    module _ (x : Item) (n : ℕ) (topics : List Topic) (relevant : HasRelevant u x n) (differ : AllPairs (λ s t. s ≢ t) topics) (asks : (t : Topic) → Contains topics t → Asks part x t) where
      by_the_system : IsBySystem x → (y : Item) → Contains u y → Relevant u y x → length topics ≤ few_asks n
      by_the_system is y hy concerns =
          let there = (relevant.1.members y).1 (hy, concerns) in
          let some : 0 < n = omega (arith, there.1, relevant.2) in
          many_asks n (length topics) some (system_asks_few u part lacks.order lacks.within lacks.needs x is n some relevant topics differ asks)

      of_added : Contains edit.added x → length topics ≤ few_asks n
      of_added h = some_asks n (length topics) (omega (arith, asked_few u part x n topics lacks.within relevant differ (λ t ht. (asks t ht, lacks.asked x t h (asks t ht)))))

      of_old : Contains c x → length topics ≤ few_asks n
      of_old h = elim (by_system_or_not x) [
        | inl is ↦ let object = standing_object good.all c u x is (survivor_supported good.all c good.survivors x h) in by_the_system is object.0 (within object.0 object.1) object.2
        | inr plain ↦ (elim (table_or_not x) [
          | inl table ↦ of_table table.0 table.1
          | inr other ↦ some_asks n (length topics) (old_asks_few c u part good within lacks.within x h plain other n relevant topics differ asks)
        ])
      ]
        where
          of_table : (o : Object) → x ≡ item.Table o → length topics ≤ few_asks n
          of_table o e = some_asks n (length topics) (omega (arith, table_asks_few u part o n topics lacks.within (subst (λ y. HasRelevant u y n) e relevant) differ (λ t ht. subst (λ y. Asks part y t) e (asks t ht))))

      of_possible : IsSystemRight edited x → length topics ≤ few_asks n
      of_possible is =
          let object = right_object edited u x is in
          let there : Contains u object.0 = elim ((fit.is_edited.members object.0).0 object.1) [ inl old ↦ within object.0 old.0 | inr added ↦ (b.spoken_of.members object.0).1 (inr (inl added)) ] in
          by_the_system (by_system edited x is) object.0 there object.2

      suspect_asks_few : Contains u x → length topics ≤ few_asks n
      suspect_asks_few h = elim ((b.spoken_of.members x).0 h) [ inl old ↦ of_old old | inr (inl added) ↦ of_added added | inr (inr possible) ↦ of_possible possible ]

    -- ---- what all ask for

    pub keys_sum : (g : Graph Item) → IsWhole same.ghosts.eq g → IsFullBoard g c → (some keys : List Item) → ((x : Item) → Contains some x → IsSuspect u edit x) → AllPairs (λ j k. j ≢ k) keys → ((k : Item) → Contains keys k → IsAskedBy part some k) → sum_by (look_ups g) keys ≤ sum_by (λ n. 6 * few_asks n + 4 * n) b.relevant
    keys_sum g whole full some keys suspects differ asked =
        let few : (x : Item) (n : ℕ) (topics : List Topic) → Contains b.suspects x → HasRelevant u x n → AllPairs (λ s t. s ≢ t) topics → ((t : Topic) → Contains topics t → IsAskedFor part x t) → length topics ≤ few_asks n = λ x n topics hx relevant apart asks.
        suspect_asks_few x n topics relevant apart (λ t ht. (asks t ht).0) (spoken x ((b.are_suspects.members x).0 hx)) in
        keys_few g c u part (good_apart c good) whole full within lacks.within b.suspects b.relevant b.counts few_asks few keys differ (λ k hk. let by = asked k hk in (by.0, (b.are_suspects.members by.0).1 (suspects by.0 by.1), by.2))

    pub asked_within : (g : Graph Item) → IsWhole same.ghosts.eq g → IsFullBoard g c → (some keys : List Item) → ((x : Item) → Contains some x → IsSuspect u edit x) → AllPairs (λ j k. j ≢ k) keys → ((k : Item) → Contains keys k → IsAskedBy part some k) → sum_by (look_ups g) keys ≤ most
    asked_within g whole full some keys suspects differ asked = omega (arith, keys_sum g whole full some keys suspects differ asked, each_within (λ n. 6 * few_asks n + 4 * n) b.relevant asks_within, b.is)

    -- ---- rights for the part

    all : (es : List (Entry u)) × AreEntries u b.suspects b.relevant es
    all = entries u b.suspects b.relevant b.counts

    abbrev Concerned : Entry u → Item → Type 0
    Concerned e y = (e.0 ≡ y) ⊎ Contains e.1 y

    concerned : (y : Item) → Contains part y → (e : Entry u) × Contains all.0 e × Concerned e y
    concerned y h = elim (lacks.concerns y h) [
      | inl suspect ↦ let e = all.1.has y ((b.are_suspects.members y).1 suspect) in (e.0, e.1, inl e.2)
      | inr of ↦
          let e = all.1.has of.0 ((b.are_suspects.members of.0).1 of.1) in
          (e.0, e.1, inr (((all.1.of e.0 e.1).1.members y).1 (lacks.within y h, subst (Relevant u y) (sym e.2) of.2)))
    ]

    one_pays : (e : Entry u) → (ys : List Item) → IsOnce ys → ((y : Item) → Contains ys y → Concerned e y) → sum_by granted_on ys ≤ 10 + 10 * length e.1
    one_pays e ys o each =
        let parts = split (λ y. e.0 ≡ y) (Contains e.1) ys each in
        let both = parts.2.once o in
        let own = at_most_one granted_on 10 parts.0 both.0 (λ a d ha hd. sym (parts.2.left a ha).1 ∙ (parts.2.left d hd).1) (λ y h. granted_few y) in
        omega (arith, parts.2.sums granted_on, own, no_more granted_on parts.1 e.1 both.1 (λ y h. (parts.2.right y h).1), at_most granted_on 10 e.1 granted_few)

    doubled : (ns : List ℕ) → 2 * sum_by (λ n. 10 + 10 * n) ns ≡ sum_by (λ n. 20 + 20 * n) ns
    doubled [] = refl
    doubled (n ∷ ns) = omega (arith, doubled ns, sum_by-cons (λ m. 10 + 10 * m) n ns, sum_by-cons (λ m. 20 + 20 * m) n ns)

    pub rights_sum : (rights : List Item) → AllPairs (λ x y. x ≢ y) rights → ((x : Item) → Contains rights x → IsSystemRight part x) → 2 * length rights ≤ sum_by (λ n. 20 + 20 * n) b.relevant
    rights_sum rights differ are =
        let paid = charged Concerned granted_on (λ (e : Entry u). 10 + 10 * length e.1) all.0 part (order_once part lacks.order) concerned (λ e h group o inside. one_pays e group o (λ y hy. (inside y hy).1)) in
        omega (arith, rights_few part lacks.order rights differ are, paid, all.1.sums (λ n. 10 + 10 * n), doubled b.relevant)

    pub rights_within : (rights : List Item) → AllPairs (λ x y. x ≢ y) rights → ((x : Item) → Contains rights x → IsSystemRight part x) → 2 * length rights ≤ most
    rights_within rights differ are = omega (arith, rights_sum rights differ are, each_within (λ n. 20 + 20 * n) b.relevant (λ n. omega arith), b.is)
