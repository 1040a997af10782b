-- How many links an item has, and a right that the system could grant, against what is relevant to it or to what pays for it.
use Rattle.std.proofs.Common.{◌≡◌, ◌⊎◌, inl, inr, ℕ, zero, suc, ◌+◌, ◌<◌, ◌≤◌, List, [], ◌∷◌, length, get_or, Option, Some, None, slice_get, sym, ◌∙◌, ap, subst, arith}
use Rattle.std.specs.Prelude.{◌≢◌, ◌*◌}
use Rattle.std.specs.List.{AllPairs, Contains, count_by}
use Rattle.std.proofs.lemmas.List.{get_or_default}
use Rattle.std.proofs.lemmas.Option.{slice_get_cases, slice_get-get_or}
use Rattle.finite_chains.specs.Chains.{IsWithin}
use Rattle.item_index.specs.Graphs.{Graph, HasKey, IsNode, IsWhole}
use Rattle.item_index.specs.Shelves.{list_at, times}
use Rattle.item_index.proofs.Mirrors.{list_there}
use Rattle.item_index.proofs.Times.{times-there}
use Rattle.cat_items.specs.contracts.item.ItemPartialEq.TheImpl as same
use Rattle.cat_items.specs.declared.item.Right.{Right}
use Rattle.cat_items.specs.declared.item.Item.{Item}
use Rattle.cat_items.specs.declared.item.Item.TheVariants as item
use Rattle.cat_items.specs.Bound.{HasRelevant, Lists, square}
use Rattle.cat_items.specs.Good.{IsGood}
use Rattle.cat_items.specs.Relevant.{Relevant, named}
use Rattle.cat_items.specs.Survivors.{IsSystemRight, MayBeSystemRight, MayBeSystemSchema}
use Rattle.cascade_laws.specs.Topics.{DependsOn, Topic}
use Rattle.cascade_laws.proofs.Spread.{row_object}
use Rattle.board_graph.specs.BoardKeys.{IsKeyOf, of_item, of_possible}
use Rattle.board_steps.specs.Plans.{IsFullBoard}
use Rattle.board_steps.proofs.Edited.{good_apart}
use Rattle.look_up_bound.specs.PossibleRights.{IsBySystem, leads_on}
use Rattle.look_up_bound.specs.Touched.{IsPaidBy}
use Rattle.look_up_bound.proofs.Counting.{IsOnce}
use Rattle.look_up_bound.proofs.Few.{depended_few}
use Rattle.look_up_bound.proofs.ManyNeeds.{system_topics_few}
use Rattle.look_up_bound.proofs.OneKey.{one_view}
use Rattle.look_up_bound.proofs.RightTopics.{topics_of_right}
use Rattle.look_up_bound.proofs.Standing.{depended_good}
use Rattle.cascade_bound.proofs.Nodes.{rests_are_topics, same_itself}

-- ---- lists without repeats

pub once_pairs : {X : Type 0} (xs : List X) → IsOnce xs → AllPairs (λ a b. a ≢ b) xs
once_pairs [] o i j d low high = absurd (omega (arith, high))
once_pairs (x ∷ xs) o zero zero d low high = absurd (omega (arith, low))
once_pairs (x ∷ xs) o (suc i) zero d low high = absurd (omega (arith, low))
once_pairs (x ∷ xs) o zero (suc j) d low high = λ e. o.0 (j, omega (arith, high), get_or_default xs j x d (omega (arith, high)) ∙ sym e)
once_pairs (x ∷ xs) o (suc i) (suc j) d low high = once_pairs xs o.1 i j d (omega (arith, low)) (omega (arith, high))

-- ---- numbers

-- what a number rests on has a key
pub rests_are_nodes : (g : Graph Item) (m n : ℕ) → IsWhole same.ghosts.eq g → Contains (list_at g.rests m) n → IsNode g n
rests_are_nodes g m n whole h = by (slice_get_cases g.keys n).1
  where
    often : 0 < times m (list_at g.dependents n)
    often = subst (λ k. 0 < k) (whole.mirrored m n) (times-there n h.0 (list_at g.rests m) (slice_get-get_or (list_at g.rests m) h.0 n h.1 ∙ ap Some h.2))

    known : (o : Option Item) → slice_get g.keys n ≡ Some o → IsNode g n
    known (Some k) e = (k, e)
    known None e = absurd (omega (arith, subst (λ l. 0 < times m l) (whole.unlinked n e).1 often))

    by : ((o : Option Item) × (n < length g.keys) × (slice_get g.keys n ≡ Some o) × (get_or g.keys n o ≡ o)) ⊎ ((length g.keys ≤ n) × (slice_get g.keys n ≡ None)) → IsNode g n
    by (inl there) = known there.0 there.2
    by (inr past) = absurd (omega (arith, past.0, whole.dependents_len, list_there g.dependents n m often))

-- ---- rights that the system could grant

pub by_system : (c : List Item) (x : Item) → IsSystemRight c x → IsBySystem x
by_system c (item.Held r) is = is.0
by_system c (item.Grantable r) is = is.0
by_system c _ is = absurd is

-- what the right is on is relevant to it
module _ (c u : List Item) (r : Right) where
  abbrev HasObject : Item → Type 0
  HasObject x = (y : Item) × Contains c y × Relevant u y x

  held_object : MayBeSystemRight c r → HasObject (item.Held r)
  held_object is = by is.2.0 is.2.1 is.2.2
    where
      by : (z : Item) → Contains c z → MayBeSystemSchema c r z → HasObject (item.Held r)
      by (item.Schema z) inside at = (at.1.0, at.1.1, named (inl (inl (row_object z.name r.need at.1.0 at.1.2).0)))
      by _ inside at = absurd at

  grantable_object : MayBeSystemRight c r → HasObject (item.Grantable r)
  grantable_object is = by is.2.0 is.2.1 is.2.2
    where
      by : (z : Item) → Contains c z → MayBeSystemSchema c r z → HasObject (item.Grantable r)
      by (item.Schema z) inside at = (at.1.0, at.1.1, named (inl (inl (row_object z.name r.need at.1.0 at.1.2).0)))
      by _ inside at = absurd at

pub right_object : (c u : List Item) (x : Item) → IsSystemRight c x → (y : Item) × Contains c y × Relevant u y x
right_object c u (item.Held r) is = held_object c u r is
right_object c u (item.Grantable r) is = grantable_object c u r is
right_object c u _ is = absurd is

-- something is relevant to it
pub some_relevant : (c u : List Item) → IsWithin c u → (x : Item) (m : ℕ) → IsSystemRight c x → HasRelevant u x m → 0 < m
some_relevant c u within x m is relevant =
    let object = right_object c u x is in
    let there = (relevant.1.members object.0).1 (within object.0 object.1, object.2) in
    omega (arith, there.1, relevant.2)

module _ (g : Graph Item) (c u : List Item) (good : IsGood c) (whole : IsWhole same.ghosts.eq g) (full : IsFullBoard g c) (within : IsWithin c u) (n : ℕ) (x k : Item) (has : HasKey g n k) (key : IsKeyOf c x k) where
  topics : (ts : List Topic) × (length ts ≡ length (list_at g.rests n)) × IsOnce ts × ((t : Topic) → Contains ts t → DependsOn c x t)
  topics = rests_are_topics same.ghosts.eq g c (good_apart c good) whole same_itself full n x k has key (λ m h. rests_are_nodes g n m whole h)

  pub links_few : (m : ℕ) → HasRelevant u x m → length (list_at g.rests n) + 3 ≤ 5 * square m
  links_few m relevant = by key
    where
      by : IsKeyOf c x k → length (list_at g.rests n) + 3 ≤ 5 * square m
      by (of_item h e) = omega (arith, topics.1, depended_few u c x m topics.0 within relevant (once_pairs topics.0 topics.2) (λ t ht. (topics.3 t ht, depended_good c u good within x t h (topics.3 t ht))))
      by (of_possible h none e) =
          omega (
            arith,
            topics.1,
            system_topics_few c u (one_view c good.survivors.order) within x m topics.0 (by_system c x h) relevant (some_relevant c u within x m h relevant) (once_pairs topics.0 topics.2) (λ t ht. topics.3 t ht),
          )

  pub links_paid : (p : Item) → IsPaidBy c p x → (relevant : List Item) → Lists (λ y. Contains u y × Relevant u y p) relevant → length (list_at g.rests n) ≤ 2 * count_by leads_on relevant + 6
  links_paid p paid relevant lists =
      omega (arith, topics.1, topics_of_right c u good.shape.names within paid.right paid.by_system p paid.is_on relevant lists x paid.is topics.0 (once_pairs topics.0 topics.2) (λ t ht. topics.3 t ht))
