-- What goes out of a board: the nodes of all suspects, and of no other but topics that are linked with nothing else.
use Rattle.std.proofs.Common.{◌≡◌, ◌⊎◌, ◌<◌, ◌&&◌, inl, inr, ◌∙◌, ap, sym, subst, true, false, not, ℕ, Bool, List, slice_get}
use Rattle.std.specs.List.{Contains, list_all}
use Rattle.std.proofs.lemmas.Bool.{both_ways}
use Rattle.item_index.specs.Graphs.{Graph, HasKey}
use Rattle.item_index.specs.Shelves.{list_at}
use Rattle.item_index.specs.Undo.{removed_all}
use Rattle.graph_steps.proofs.Numbers.{contained, key_stays, key_stood, one_key, some_times}
use Rattle.cat_items.specs.declared.item.Item.{Item}
use Rattle.board_graph.specs.BoardKeys.{IsKeyOf}
use Rattle.board_steps.specs.Plans.{IsBoardKey, IsOfSuspect, IsSpent}
use Rattle.board_steps.proofs.Apart.{no_topic, one_item, same_key, alike_back}
use Rattle.board_plans.specs.declared.arrivals.Arrival.{Arrival}
use Rattle.board_plans.specs.Leaving.{AreOutgoing, goes, has_item, has_topic, is_item_at, is_topic_at}
use Rattle.key_tests.specs.Tests.{is_topic}
use Rattle.board_plans.specs.Planning.{CanPlan}
use Rattle.board_plans.specs.Spent.{has_no_other, is_among}
use Rattle.board_plans.proofs.Inserted.{is_there, told_there}
use Rattle.board_plans.proofs.Outgoing.{both_of, first_of, passes, second_of}
use Rattle.key_tests.proofs.TopicKeys.{item_is_none, topic_is}

module _ (eq : Item → Item → Bool) (g : Graph Item) (c new : List Item) (suspect : Item → Bool) (touched : List ℕ) (arrivals : List Arrival)
    (can : CanPlan eq g c new suspect touched arrivals) (out : List ℕ) (outgoing : AreOutgoing g touched out) where
  goes_out : (n : ℕ) → goes g touched n ≡ true → Contains out n
  goes_out n is = (outgoing.exactly n).1 (inl is)

  pub suspects_out : (n : ℕ) (k : Item) → HasKey g n k → IsOfSuspect c suspect k → Contains out n
  suspects_out n k has of =
      goes_out n (both_of (is_among touched n) (is_item_at g n) (told_there n touched (can.touched_are.all n k has of)) (ap has_item has ∙ ap not (item_is_none c can.old_keys.0 of.0 k of.1)))

  -- a touched number that has no topic's key is a suspect's
  item_out : (n : ℕ) → is_among touched n ≡ true → is_item_at g n ≡ true → (k : Item) × HasKey g n k × IsOfSuspect c suspect k
  item_out n at item =
      let was = can.touched_are.only n (is_there n touched at) in
      elim was.2 [
        | inl of ↦ (was.0, was.1, of)
        | inr topic ↦ absurd (both_ways (has_item (slice_get g.keys n)) (ap has_item was.1 ∙ ap not (ap is_topic topic.2 ∙ topic_is topic.0 topic.1)) item)
      ]

  -- what rests on a number is among its dependents
  from_dependents : (m n : ℕ) → Contains (list_at g.rests m) n → Contains (list_at g.dependents n) m
  from_dependents m n h = contained m (list_at g.dependents n) (subst (λ (often : ℕ). 0 < often) (can.whole.mirrored m n) (some_times n (list_at g.rests m) h))

  all_linked : (n : ℕ) → has_no_other (goes g touched) g n ≡ true → (m : ℕ) → Contains (list_at g.rests n) m ⊎ Contains (list_at g.rests m) n → Contains out m
  all_linked n alone m link =
      let rests = list_all (goes g touched) (list_at g.rests n) in
      let dependents = list_all (goes g touched) (list_at g.dependents n) in
      elim link [
        | inl to ↦ goes_out m (passes (goes g touched) (list_at g.rests n) (first_of rests dependents alone) m to)
        | inr back ↦ goes_out m (passes (goes g touched) (list_at g.dependents n) (second_of rests dependents alone) m (from_dependents m n back))
      ]

  -- a touched topic is spent where all that it is linked with goes
  topic_out : (n : ℕ) → is_among touched n ≡ true → is_topic_at g n ≡ true → has_no_other (goes g touched) g n ≡ true → (k : Item) × HasKey g n k × IsSpent g out n k
  topic_out n at topic alone =
      let was = can.touched_are.only n (is_there n touched at) in
      elim was.2 [
        | inl of ↦ absurd (both_ways (has_topic (slice_get g.keys n)) (ap has_topic was.1 ∙ item_is_none c can.old_keys.0 of.0 was.0 of.1) topic)
        | inr is ↦ (was.0, was.1, (is.0, is.1, is.2, all_linked n alone))
      ]

  pub only_out : (n : ℕ) → Contains out n → (k : Item) × HasKey g n k × (IsOfSuspect c suspect k ⊎ IsSpent g out n k)
  only_out n h =
      elim ((outgoing.exactly n).0 h) [
        | inl item ↦ let r = item_out n (first_of (is_among touched n) (is_item_at g n) item) (second_of (is_among touched n) (is_item_at g n) item) in (r.0, r.1, inl r.2)
        | inr spent ↦
            let topic = first_of (is_among touched n && is_topic_at g n) (has_no_other (goes g touched) g n) spent in
            let alone = second_of (is_among touched n && is_topic_at g n) (has_no_other (goes g touched) g n) spent in
            let r = topic_out n (first_of (is_among touched n) (is_topic_at g n) topic) (second_of (is_among touched n) (is_topic_at g n) topic) alone in
            (r.0, r.1, inr r.2)
      ]

  -- a node of what is no suspect stays
  pub clear_stays : (n : ℕ) (x k : Item) → HasKey g n k → IsKeyOf c x k → suspect x ≡ false → Contains out n → ⊥
  clear_stays n x k has is clear gone =
      let was = only_out n gone in
      let same : was.0 ≡ k = one_key g n was.0 k was.1 has in
      elim was.2 [
        | inl of ↦
            let one : of.0 ≡ x = one_item c c can.old_keys.0 can.old_keys.0 of.0 x k (subst (IsKeyOf c of.0) same of.1) is in
            both_ways (suspect x) clear (subst (λ (y : Item). suspect y ≡ true) one of.2)
        | inr spent ↦ no_topic c can.old_keys.0 x k spent.0 is spent.1 (sym same ∙ spent.2)
      ]

  -- what is there is a key of the old board
  pub old_key : (n : ℕ) (k : Item) → HasKey g n k → IsBoardKey c k
  old_key n k has = can.full.board.helpers n k has

  -- what stays is no suspect's
  pub no_suspect_stays : (n : ℕ) (k : Item) → HasKey (removed_all g out) n k → IsOfSuspect new suspect k → ⊥
  no_suspect_stays n k has of =
      let was = key_stood g out n k has in
      elim (old_key n k was.0) [
        | inl is ↦ was.1 (suspects_out n k was.0 (is.0, is.1, subst (λ (y : Item). suspect y ≡ true) (one_item new c can.new_keys.0 can.old_keys.0 of.0 is.0 k of.1 is.1) of.2))
        | inr topic ↦ no_topic new can.new_keys.0 of.0 k topic.0 of.1 topic.1 topic.2
      ]

  -- what is no suspect has a number that stays
  pub clear_number : (x k : Item) → IsKeyOf new x k → suspect x ≡ false → (n : ℕ) × HasKey (removed_all g out) n k
  clear_number x k is clear =
      let was = same_key new c suspect (alike_back c new suspect can.alike) x k clear is in
      let at = can.full.board.items x k was in
      (at.0, key_stays g out at.0 k at.1 (clear_stays at.0 x k at.1 was clear))
