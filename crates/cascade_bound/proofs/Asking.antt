-- How many topics an item of the catalogue asks for over a part of what is spoken of.
use Rattle.std.proofs.Common.{◌≡◌, ◌⊎◌, inl, inr, ℕ, ◌+◌, ◌≤◌, List, [], ◌∷◌, ◌++◌, length, refl, sym, subst, arith}
use Rattle.std.specs.Prelude.{◌≢◌, ◌*◌}
use Rattle.std.specs.List.{AllPairs, Contains, sum_by}
use Rattle.std.proofs.lemmas.List.{length-append}
use Rattle.std.proofs.lemmas.List.Elements.{Contains-append_left, Contains-append_right}
use Rattle.std.proofs.lemmas.List.Sums.{sum_by-cons}
use Rattle.finite_chains.specs.Chains.{IsWithin}
use Rattle.sql_names.specs.declared.object.Object.{Object}
use Rattle.cat_items.specs.declared.need.Auth.{Auth}
use Rattle.cat_items.specs.declared.need.Auth.TheVariants.{System, Public, Named}
use Rattle.cat_items.specs.declared.need.Need.{Need}
use Rattle.cat_items.specs.declared.item.Right.{Right}
use Rattle.cat_items.specs.declared.item.Item.{Item}
use Rattle.cat_items.specs.declared.item.Item.TheVariants as item
use Rattle.cat_items.specs.Bound.{HasRelevant, Lists, square}
use Rattle.cat_items.specs.Good.{IsGood}
use Rattle.cat_items.specs.Relevant.{IsNeedOf, IsRightNeed, Relevant}
use Rattle.cat_items.specs.Shape.{HasDerivedFields}
use Rattle.cat_items.specs.Supported.{Supported}
use Rattle.cascade_laws.specs.Asks.{Asks, IsFarTopic, IsFarRightTopic, IsFirstTopic, by_name, by_far, by_option, of_need, of_supply, of_edges, of_admins}
use Rattle.cascade_laws.specs.Topics.{IsAuthTopic, Topic}
use Rattle.cascade_laws.specs.Topics as on
use Rattle.look_up_bound.specs.PossibleRights.{IsBySystem}
use Rattle.look_up_bound.specs.TopicParts.{HasParts, MayLackParts, by_column, by_object, by_system}
use Rattle.look_up_bound.proofs.Counting.{at_head, no_longer, once}
use Rattle.look_up_bound.proofs.Few.{asked_few}
use Rattle.look_up_bound.proofs.Sharp.{asked_most, most_topics}
use Rattle.look_up_bound.proofs.Standing.{asked_stands, column_kept, parts_more, sought_stands}
use Rattle.look_up_bound.proofs.Survivor.{survivor_supported}
use Rattle.cascade_bound.proofs.Groups.{split}
use Rattle.cascade_bound.proofs.Items.{once_pairs}

-- ---- what is far

auth_topics : Auth → List Topic
auth_topics (Named name) = on.authorization name ∷ []
auth_topics a = []

first_topics : List (List ℕ) → List Topic
first_topics [] = []
first_topics (name ∷ names) = on.schema name ∷ []

right_topics : Right → List Topic
right_topics r = first_topics r.need.on ++ (auth_topics r.grantee ++ auth_topics r.grantor)

pub far_topics : Item → List Topic
far_topics (item.Column k) = on.schema k.table.schema ∷ []
far_topics (item.Held r) = right_topics r
far_topics (item.Grantable r) = right_topics r
far_topics x = []

auth_few : (a : Auth) → length (auth_topics a) ≤ 1
unfolding auth_topics
auth_few (Named name) = omega arith
auth_few System = omega arith
auth_few Public = omega arith

first_few : (path : List (List ℕ)) → length (first_topics path) ≤ 1
unfolding first_topics
first_few [] = omega arith
first_few (name ∷ names) = omega arith

right_few : (r : Right) → length (right_topics r) ≤ 3
unfolding right_topics
right_few r = omega (arith, length-append (first_topics r.need.on) (auth_topics r.grantee ++ auth_topics r.grantor), length-append (auth_topics r.grantee) (auth_topics r.grantor), first_few r.need.on, auth_few r.grantee, auth_few r.grantor)

pub far_few : (x : Item) → length (far_topics x) ≤ 3
unfolding far_topics
far_few (item.Column k) = omega arith
far_few (item.Held r) = right_few r
far_few (item.Grantable r) = right_few r
far_few _ = omega arith

auth_listed : (a : Auth) (t : Topic) → IsAuthTopic a t → Contains (auth_topics a) t
unfolding auth_topics
auth_listed (Named name) t e = at_head (on.authorization name) t [] (sym e)
auth_listed System t e = absurd e
auth_listed Public t e = absurd e

first_listed : (path : List (List ℕ)) (t : Topic) → IsFirstTopic path t → Contains (first_topics path) t
unfolding first_topics
first_listed [] t e = absurd e
first_listed (name ∷ names) t e = at_head (on.schema name) t [] (sym e)

right_listed : (r : Right) (t : Topic) → IsFarRightTopic r t → Contains (right_topics r) t
unfolding right_topics
right_listed r t (inl e) = Contains-append_left (first_topics r.need.on) (auth_topics r.grantee ++ auth_topics r.grantor) t (first_listed r.need.on t e)
right_listed r t (inr (inl e)) = Contains-append_right (first_topics r.need.on) (auth_topics r.grantee ++ auth_topics r.grantor) t (Contains-append_left (auth_topics r.grantee) (auth_topics r.grantor) t (auth_listed r.grantee t e))
right_listed r t (inr (inr e)) = Contains-append_right (first_topics r.need.on) (auth_topics r.grantee ++ auth_topics r.grantor) t (Contains-append_right (auth_topics r.grantee) (auth_topics r.grantor) t (auth_listed r.grantor t e))

pub far_listed : (x : Item) (t : Topic) → IsFarTopic x t → Contains (far_topics x) t
unfolding far_topics
far_listed (item.Column k) t e = at_head (on.schema k.table.schema) t [] (sym e)
far_listed (item.Held r) t e = right_listed r t e
far_listed (item.Grantable r) t e = right_listed r t e
far_listed _ t e = absurd e

-- ---- needs that an item has by itself

right_alike : (l m : List Item) (r : Right) (a : Auth) → (¬ (a ≡ System)) → (need : Need) → IsRightNeed l r a need → IsRightNeed m r a need
right_alike l m r System other need is = absurd (other refl)
right_alike l m r Public other need is = is
right_alike l m r (Named name) other need is = is

need_alike : (l m : List Item) (x : Item) → (¬ (IsBySystem x)) → ((o : Object) → x ≢ item.Table o) → (need : Need) → IsNeedOf l x need → IsNeedOf m x need
need_alike l m (item.Table o) plain other need is = absurd (other o refl)
need_alike l m (item.View v) plain other need is = is
need_alike l m (item.Column k) plain other need is = is
need_alike l m (item.DomainCheck d) plain other need is = is
need_alike l m (item.Foreign f) plain other need is = is
need_alike l m (item.Check k) plain other need is = is
need_alike l m (item.Assertion z) plain other need is = is
need_alike l m (item.Routine z) plain other need is = is
need_alike l m (item.Held r) plain other need is = right_alike l m r r.grantor plain need is
need_alike l m (item.Grantable r) plain other need is = right_alike l m r r.grantor plain need is
need_alike l m _ plain other need is = absurd is

pub ones : (ts : List Topic) → sum_by (λ t. 1) ts ≡ length ts
ones [] = refl
ones (t ∷ ts) = omega (arith, ones ts, sum_by-cons (λ s. 1) t ts)

module _ (c u part : List Item) (good : IsGood c) (within : IsWithin c u) (part_within : IsWithin part u) (x : Item) (h : Contains c x) (plain : ¬ (IsBySystem x)) (other : (o : Object) → x ≢ item.Table o) where
  supported : Supported good.all c x
  supported = survivor_supported good.all c good.survivors x h

  derived : HasDerivedFields x
  derived = good.shape.derived x h

  in_c : (t : Topic) → Asks c x t → HasParts u t ⊎ IsFarTopic x t
  in_c t asks = elim (asked_stands good.all c (column_kept good.all c good.survivors) x h derived supported t asks) [ inl parts ↦ inl (parts_more c u within t parts) | inr may ↦ inr (by may) ]
    where
      by : MayLackParts c x t → IsFarTopic x t
      by (by_object is e) = e
      by (by_column table e need needed of) = absurd (other table e)
      by (by_system is need needed of) = absurd (plain is)

  same_need : (need : Need) → IsNeedOf part x need → IsNeedOf c x need
  same_need need is = need_alike part c x plain other need is

  there_or_far : (t : Topic) → Asks part x t → HasParts u t ⊎ IsFarTopic x t
  there_or_far t (by_name e) = in_c t (by_name e)
  there_or_far t (by_far e) = inr e
  there_or_far t (by_option e) = in_c t (by_option e)
  there_or_far t (of_need need needed e) = in_c t (of_need need (same_need need needed) e)
  there_or_far t (of_supply need a g needed acts way e) = elim (sought_stands good.all c (column_kept good.all c good.survivors) x derived supported need (same_need need needed)) [
    | inl stands ↦ inl (subst (HasParts u) (sym e) (parts_more c u within (on.supply need g) stands))
    | inr can ↦ (elim can [ inl system ↦ absurd (plain system) | inr table ↦ absurd (other table.0 table.1) ])
  ]
  there_or_far t (of_edges a name seeks way e) = inl (subst (HasParts u) (sym e) tt)
  there_or_far t (of_admins a role name grants acts way e) = inl (subst (HasParts u) (sym e) tt)

  pub old_asks_few : (n : ℕ) → HasRelevant u x n → (topics : List Topic) → AllPairs (λ s t. s ≢ t) topics → ((t : Topic) → Contains topics t → Asks part x t) → length topics ≤ 5 * square n
  old_asks_few n relevant topics differ asks =
      let parts = split (HasParts u) (IsFarTopic x) topics (λ t ht. there_or_far t (asks t ht)) in
      let both = parts.2.once (once topics differ) in
      omega (
        arith,
        parts.2.sums (λ t. 1),
        ones topics,
        ones parts.0,
        ones parts.1,
        asked_few u part x n parts.0 part_within relevant (once_pairs parts.0 both.0) (λ t ht. let p = parts.2.left t ht in (asks t p.0, p.1)),
        no_longer parts.1 (far_topics x) both.1 (λ t ht. far_listed x t (parts.2.right t ht).1),
        far_few x,
      )

  -- and no more than three beside what its parts, schemas and role authorizations tell
  pub old_asks_most : (xs : List Item) → Lists (λ y. Contains u y × Relevant u y x) xs → (topics : List Topic) → AllPairs (λ s t. s ≢ t) topics → ((t : Topic) → Contains topics t → Asks part x t) → length topics ≤ most_topics x xs + 3
  old_asks_most xs lists topics differ asks =
      let parts = split (HasParts u) (IsFarTopic x) topics (λ t ht. there_or_far t (asks t ht)) in
      let both = parts.2.once (once topics differ) in
      omega (
        arith,
        parts.2.sums (λ t. 1),
        ones topics,
        ones parts.0,
        ones parts.1,
        asked_most u part xs part_within parts.0 (once_pairs parts.0 both.0) x lists (λ t ht. let p = parts.2.left t ht in (asks t p.0, p.1)),
        no_longer parts.1 (far_topics x) both.1 (λ t ht. far_listed x t (parts.2.right t ht).1),
        far_few x,
      )
