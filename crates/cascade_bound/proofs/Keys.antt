-- What all suspects ask for, each key looked up once.
use Rattle.std.proofs.Common.{◌≡◌, ℕ, ◌+◌, ◌≤◌, List, length, refl, sym, ◌∙◌, ap, subst, arith}
use Rattle.std.specs.Prelude.{◌≢◌, ◌*◌}
use Rattle.std.specs.List.{AllPairs, AllZip, Contains, sum_by}
use Rattle.finite_chains.specs.Chains.{IsWithin}
use Rattle.item_index.specs.Graphs.{Graph, IsWhole}
use Rattle.cat_items.specs.contracts.item.ItemPartialEq.TheImpl as same
use Rattle.cat_items.specs.declared.item.Item.{Item}
use Rattle.cat_items.specs.Bound.{HasRelevant}
use Rattle.cascade_laws.specs.Topics.{Topic}
use Rattle.board_graph.specs.BoardKeys.{topic_key}
use Rattle.board_steps.specs.Plans.{HasNoHelper, IsFullBoard}
use Rattle.topic_lists.specs.Sought.{IsAskedFor}
use Rattle.asked_parts.specs.Parts.{IsAskedBy}
use Rattle.asked_parts.specs.Under.{look_ups}
use Rattle.look_up_bound.proofs.Counting.{IsOnce, once}
use Rattle.cascade_bound.proofs.Asked.{asked_few}
use Rattle.cascade_bound.proofs.Entries.{AreEntries, Entry, entries}
use Rattle.cascade_bound.proofs.Groups.{charged, chosen}
use Rattle.cascade_bound.proofs.Items.{once_pairs}

module _ (g : Graph Item) (c u part : List Item) (no_c : HasNoHelper c) (whole : IsWhole same.ghosts.eq g) (full : IsFullBoard g c) (within : IsWithin c u) (part_within : IsWithin part u) (suspects : List Item) (relevant : List ℕ) (zip : AllZip (HasRelevant u) suspects relevant)
    (asks : ℕ → ℕ) (few : (x : Item) (n : ℕ) (topics : List Topic) → Contains suspects x → HasRelevant u x n → AllPairs (λ s t. s ≢ t) topics → ((t : Topic) → Contains topics t → IsAskedFor part x t) → length topics ≤ asks n) where
  all : (es : List (Entry u)) × AreEntries u suspects relevant es
  all = entries u suspects relevant zip

  abbrev IsAsked : Entry u → Item → Type 0
  IsAsked e k = (t : Topic) × IsAskedFor part e.0 t × (k ≡ topic_key t)

  one_asks : (e : Entry u) → Contains all.0 e → (keys : List Item) → IsOnce keys → ((k : Item) → Contains keys k → IsAsked e k) → sum_by (look_ups g) keys ≤ 6 * asks (length e.1) + 4 * length e.1
  one_asks e h keys o each =
      let of = all.1.of e h in
      let n = length e.1 in
      let has : HasRelevant u e.0 n = (e.1, of.1, refl) in
      let picked = chosen (λ k t. IsAskedFor part e.0 t × (k ≡ topic_key t)) (λ j k t a d. a.1 ∙ sym d.1) keys o (λ k hk. let is = each k hk in (is.0, (is.1, is.2))) in
      let topics = picked.0 in
      let asked : (t : Topic) → Contains topics t → IsAskedFor part e.0 t = λ t ht. (picked.1.of t ht).2.0 in
      let same_sum = picked.1.sums (look_ups g) (λ t. look_ups g (topic_key t)) (λ k t hk is. omega (arith, ap (look_ups g) is.1)) in
      omega (arith, same_sum, asked_few g c no_c whole full u part e.0 n topics within part_within has (once_pairs topics picked.1.once) asked, few e.0 n topics of.0 has (once_pairs topics picked.1.once) asked)

  pub keys_few : (keys : List Item) → AllPairs (λ j k. j ≢ k) keys → ((k : Item) → Contains keys k → IsAskedBy part suspects k) → sum_by (look_ups g) keys ≤ sum_by (λ n. 6 * asks n + 4 * n) relevant
  keys_few keys differ each =
      let all_paid = charged IsAsked (look_ups g) (λ (e : Entry u). 6 * asks (length e.1) + 4 * length e.1) all.0 keys (once keys differ) (λ k h.
      let by = each k h in
      let e = all.1.has by.0 by.1 in
      (e.0, e.1, subst (λ x. (t : Topic) × IsAskedFor part x t × (k ≡ topic_key t)) (sym e.2) by.2)) (λ e h group o inside. one_asks e h group o (λ k hk. (inside k hk).1)) in
      omega (arith, all_paid, all.1.sums (λ n. 6 * asks n + 4 * n))

-- the same, where how many topics it asks for goes by the suspect
module _ (g : Graph Item) (c u part : List Item) (no_c : HasNoHelper c) (whole : IsWhole same.ghosts.eq g) (full : IsFullBoard g c) (within : IsWithin c u) (part_within : IsWithin part u) (suspects : List Item) (relevant : List ℕ) (es : List (Entry u)) (are : AreEntries u suspects relevant es)
    (asks : Entry u → ℕ) (few : (e : Entry u) (topics : List Topic) → Contains es e → IsOnce topics → ((t : Topic) → Contains topics t → IsAskedFor part e.0 t) → length topics ≤ asks e) where
  abbrev Asked : Entry u → Item → Type 0
  Asked e k = (t : Topic) × IsAskedFor part e.0 t × (k ≡ topic_key t)

  one_suspect : (e : Entry u) → Contains es e → (keys : List Item) → IsOnce keys → ((k : Item) → Contains keys k → Asked e k) → sum_by (look_ups g) keys ≤ 6 * asks e + 4 * length e.1
  one_suspect e h keys o each =
      let has : HasRelevant u e.0 (length e.1) = (e.1, (are.of e h).1, refl) in
      let picked = chosen (λ k t. IsAskedFor part e.0 t × (k ≡ topic_key t)) (λ j k t a d. a.1 ∙ sym d.1) keys o (λ k hk. let is = each k hk in (is.0, (is.1, is.2))) in
      let topics = picked.0 in
      let asked : (t : Topic) → Contains topics t → IsAskedFor part e.0 t = λ t ht. (picked.1.of t ht).2.0 in
      let same_sum = picked.1.sums (look_ups g) (λ t. look_ups g (topic_key t)) (λ k t hk is. omega (arith, ap (look_ups g) is.1)) in
      omega (arith, same_sum, asked_few g c no_c whole full u part e.0 (length e.1) topics within part_within has (once_pairs topics picked.1.once) asked, few e topics h picked.1.once asked)

  pub keys_most : (keys : List Item) → IsOnce keys → ((k : Item) → Contains keys k → IsAskedBy part suspects k) → sum_by (look_ups g) keys ≤ sum_by (λ e. 6 * asks e + 4 * length e.1) es
  keys_most keys o each =
      charged Asked (look_ups g) (λ (e : Entry u). 6 * asks e + 4 * length e.1) es keys o (λ k h.
      let by = each k h in
      let e = are.has by.0 by.1 in
      (e.0, e.1, subst (λ x. (t : Topic) × IsAskedFor part x t × (k ≡ topic_key t)) (sym e.2) by.2)) (λ e h group og inside. one_suspect e h group og (λ k hk. (inside k hk).1))
