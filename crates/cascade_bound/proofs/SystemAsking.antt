-- How many topics a right by the system asks for over a part, where what views and routines of the part need stands.
use Rattle.std.proofs.Common.{◌≡◌, ◌⊎◌, inl, inr, ℕ, ◌+◌, ◌<◌, ◌≤◌, List, [], ◌∷◌, ◌++◌, length, Option, Some, None, refl, sym, subst, arith}
use Rattle.std.specs.Prelude.{◌≢◌, ◌*◌}
use Rattle.std.specs.List.{AllPairs, Contains}
use Rattle.std.proofs.lemmas.List.{length-append}
use Rattle.std.proofs.lemmas.List.Elements.{Contains-append_left, Contains-append_right}
use Rattle.finite_chains.specs.Chains.{IsWithin}
use Rattle.finite_chains.proofs.Members.{Contains-tail}
use Rattle.sql_tree.specs.declared.rights.Action.{Action}
use Rattle.sql_tree.specs.declared.rights.Action.TheVariants as action
use Rattle.sql_tree.specs.declared.body.Security.{Security}
use Rattle.sql_tree.specs.declared.body.Security.TheVariants.{Definer, Invoker}
use Rattle.cat_items.specs.declared.need.Auth.TheVariants.{System}
use Rattle.cat_items.specs.declared.need.Need.{Need}
use Rattle.cat_items.specs.declared.item.Right.{Right}
use Rattle.cat_items.specs.declared.item.Routine.{Routine}
use Rattle.cat_items.specs.declared.item.View.{View}
use Rattle.cat_items.specs.declared.item.Item.{Item}
use Rattle.cat_items.specs.declared.item.Item.TheVariants as item
use Rattle.cat_items.specs.Bound.{HasRelevant, Lists, square}
use Rattle.cat_items.specs.Catalogues.{IsInOrder}
use Rattle.cat_items.specs.Reach.{Has}
use Rattle.cat_items.specs.Relevant.{IsNeedOf, IsObjectNeed, IsRightNeed, IsRoutineNeed, IsViewNeed, Relevant}
use Rattle.cat_items.specs.Rights.{Stands}
use Rattle.cat_items.specs.SystemRights.{security_of}
use Rattle.cascade_laws.specs.Asks.{Asks, IsFarTopic}
use Rattle.cascade_laws.specs.Asks as asks
use Rattle.cascade_laws.specs.Topics.{DependsOn, IsNeedTopic, IsObjectTopic, IsOwnNeed, IsOwnRightNeed, IsPartyTopic, IsUpdateNeed, IsUpdateNeedOn, Topic}
use Rattle.cascade_laws.specs.Topics as on
use Rattle.look_up_bound.specs.PossibleRights.{IsBySystem}
use Rattle.look_up_bound.specs.TopicParts.{HasParts}
use Rattle.look_up_bound.proofs.Standing.{need_there}
use Rattle.look_up_bound.proofs.Counting.{at_head, no_longer, once}
use Rattle.look_up_bound.proofs.Few.{asked_few}
use Rattle.look_up_bound.proofs.ManyNeeds.{system_topics_few, system_topics_most}
use Rattle.look_up_bound.proofs.OneKey.{one_view}
use Rattle.look_up_bound.proofs.Sharp.{asked_most, most_plain, most_topics, system_given}
use Rattle.cascade_bound.specs.Missing.{NeedsStand}
use Rattle.cascade_bound.proofs.Asking.{far_few, far_listed, far_topics, ones}
use Rattle.cascade_bound.proofs.Groups.{split}
use Rattle.cascade_bound.proofs.Items.{once_pairs}

-- ---- actions that change what a plain view shows

abbrev pub IsUpdating : Action → Type 0
IsUpdating action.Insert = Unit {0}
IsUpdating action.Update = Unit {0}
IsUpdating action.Delete = Unit {0}
IsUpdating by = ⊥

pub updating_or_not : (by : Action) → IsUpdating by ⊎ (¬ (IsUpdating by))
updating_or_not action.Insert = inl tt
updating_or_not action.Update = inl tt
updating_or_not action.Delete = inl tt
updating_or_not by = inr (λ none. none)

view_updating : (l : List Item) (v : View) (by : Action) (column : Option (List ℕ)) (need : Need) → IsUpdating by → IsViewNeed l v by column need → IsUpdateNeed l v by column need
view_updating l v action.Insert None need by is = is
view_updating l v action.Insert (Some name) need by is = is
view_updating l v action.Update None need by is = is
view_updating l v action.Update (Some name) need by is = is
view_updating l v action.Delete None need by is = is
view_updating l v action.Delete (Some name) need by is = absurd is
view_updating l v action.Select column need by is = absurd by
view_updating l v action.References column need by is = absurd by
view_updating l v action.Usage column need by is = absurd by
view_updating l v action.Execute column need by is = absurd by
view_updating l v action.Admin column need by is = absurd by

pub view_other : (l : List Item) (v : View) (by : Action) (column : Option (List ℕ)) (need : Need) → (¬ (IsUpdating by)) → IsViewNeed l v by column need → Contains v.needs need
view_other l v action.Select column need other is = is
view_other l v action.Insert column need other is = absurd (other tt)
view_other l v action.Update column need other is = absurd (other tt)
view_other l v action.Delete column need other is = absurd (other tt)
view_other l v action.References column need other is = absurd is
view_other l v action.Usage column need other is = absurd is
view_other l v action.Execute column need other is = absurd is
view_other l v action.Admin column need other is = absurd is

routine_other : (z : Routine) (by : Security) (need : Need) → IsRoutineNeed z by need → Contains z.needs need
routine_other z Definer need is = is
routine_other z Invoker need is = absurd is

module _ (u part : List Item) (stand : NeedsStand u part) (r : Right) where
  updating_need : IsUpdating r.need.action → (need : Need) → Has part (IsObjectNeed part r need) → Has part (IsUpdateNeedOn part r need)
  updating_need by need h = (h.0, h.1, of h.0 h.2)
    where
      of : (y : Item) → IsObjectNeed part r need y → IsUpdateNeedOn part r need y
      of (item.View v) is = (is.0, view_updating part v r.need.action r.need.column need by is.1)
      of (item.Routine z) is = absurd (subst (λ (n : Need). IsUpdating n.action) is.0 by)
      of _ is = absurd is

  other_need : (¬ (IsUpdating r.need.action)) → (need : Need) → Has part (IsObjectNeed part r need) → Stands u need
  other_need other need h = of h.0 h.1 h.2
    where
      of : (y : Item) → Contains part y → IsObjectNeed part r need y → Stands u need
      of (item.View v) there is = stand (item.View v) need there (view_other part v r.need.action r.need.column need other is.1)
      of (item.Routine z) there is = stand (item.Routine z) need there (routine_other z (security_of z.body) need is.1)
      of _ there is = absurd is

-- ---- topics of the right itself

object_topics : Action → List (List ℕ) → List Topic
object_topics action.Usage path = on.domain path ∷ []
object_topics action.Execute path = on.routine path ∷ []
object_topics action.Admin path = []
object_topics by path = on.table path ∷ []

column_topics : List (List ℕ) → Option (List ℕ) → List Topic
column_topics path None = []
column_topics path (Some name) = on.column path name ∷ []

object_few : (by : Action) (path : List (List ℕ)) → length (object_topics by path) ≤ 1
unfolding object_topics
object_few action.Select path = omega arith
object_few action.Insert path = omega arith
object_few action.Update path = omega arith
object_few action.Delete path = omega arith
object_few action.References path = omega arith
object_few action.Usage path = omega arith
object_few action.Execute path = omega arith
object_few action.Admin path = omega arith

column_few : (path : List (List ℕ)) (column : Option (List ℕ)) → length (column_topics path column) ≤ 1
unfolding column_topics
column_few path None = omega arith
column_few path (Some name) = omega arith

object_listed : (by : Action) (path : List (List ℕ)) (t : Topic) → IsObjectTopic by path t → Contains (object_topics by path) t
unfolding object_topics
object_listed action.Usage path t e = at_head (on.domain path) t [] (sym e)
object_listed action.Execute path t e = at_head (on.routine path) t [] (sym e)
object_listed action.Admin path t e = absurd e
object_listed action.Select path t e = at_head (on.table path) t [] (sym e)
object_listed action.Insert path t e = at_head (on.table path) t [] (sym e)
object_listed action.Update path t e = at_head (on.table path) t [] (sym e)
object_listed action.Delete path t e = at_head (on.table path) t [] (sym e)
object_listed action.References path t e = at_head (on.table path) t [] (sym e)

column_listed : (path : List (List ℕ)) (column : Option (List ℕ)) (name : List ℕ) (t : Topic) → column ≡ Some name → t ≡ on.column path name → Contains (column_topics path column) t
unfolding column_topics
column_listed path column name t is e = subst (λ c. Contains (column_topics path c) t) (sym is) (here t e)
  where
    here : (t : Topic) → t ≡ on.column path name → Contains (column_topics path (Some name)) t
    here t e = at_head (on.column path name) t [] (sym e)

plain_topics : Item → Right → List Topic
plain_topics x r = (on.held r ∷ object_topics r.need.action r.need.on) ++ (column_topics r.need.on r.need.column ++ far_topics x)

plain_few : (x : Item) (r : Right) → length (plain_topics x r) ≤ 6
unfolding plain_topics
plain_few x r =
    omega (
      arith,
      length-append (on.held r ∷ object_topics r.need.action r.need.on) (column_topics r.need.on r.need.column ++ far_topics x),
      length-append (column_topics r.need.on r.need.column) (far_topics x),
      object_few r.need.action r.need.on,
      column_few r.need.on r.need.column,
      far_few x,
    )

plain_near : (x : Item) (r : Right) (t : Topic) → IsNeedTopic r.need t → Contains (plain_topics x r) t
unfolding plain_topics
plain_near x r t (inl e) =
    Contains-append_left (on.held r ∷ object_topics r.need.action r.need.on) (column_topics r.need.on r.need.column ++ far_topics x) t (Contains-tail (on.held r) (object_topics r.need.action r.need.on) t (object_listed r.need.action r.need.on t e))
plain_near x r t (inr h) =
    Contains-append_right (on.held r ∷ object_topics r.need.action r.need.on) (column_topics r.need.on r.need.column ++ far_topics x) t
    (Contains-append_left (column_topics r.need.on r.need.column) (far_topics x) t (column_listed r.need.on r.need.column h.0 t h.1 h.2))

plain_far : (x : Item) (r : Right) (t : Topic) → IsFarTopic x t → Contains (plain_topics x r) t
unfolding plain_topics
plain_far x r t e =
    Contains-append_right (on.held r ∷ object_topics r.need.action r.need.on) (column_topics r.need.on r.need.column ++ far_topics x) t (Contains-append_right (column_topics r.need.on r.need.column) (far_topics x) t (far_listed x t e))

plain_option : (x : Item) (r : Right) (t : Topic) → t ≡ on.held r → Contains (plain_topics x r) t
unfolding plain_topics
plain_option x r t e =
    Contains-append_left (on.held r ∷ object_topics r.need.action r.need.on) (column_topics r.need.on r.need.column ++ far_topics x) t (at_head (on.held r) t (object_topics r.need.action r.need.on) (sym e))

-- ---- a right that is held

module _ (u part : List Item) (order : IsInOrder part) (within : IsWithin part u) (stand : NeedsStand u part) (r : Right) (system : r.grantor ≡ System) (n : ℕ) (some : 0 < n) (relevant : HasRelevant u (item.Held r) n) (topics : List Topic) (differ : AllPairs (λ s t. s ≢ t) topics)
    (asked : (t : Topic) → Contains topics t → Asks part (item.Held r) t) where
  held_need : (need : Need) → IsNeedOf part (item.Held r) need → Has part (IsObjectNeed part r need)
  held_need need is = subst (λ a. IsRightNeed part r a need) system is

  held_own : (need : Need) → Has part (IsUpdateNeedOn part r need) → IsOwnNeed part (item.Held r) need
  held_own need is = subst (λ a. IsOwnRightNeed part r a need) (sym system) is

  held_depends : IsUpdating r.need.action → (t : Topic) → Asks part (item.Held r) t → DependsOn part (item.Held r) t ⊎ IsFarTopic (item.Held r) t
  held_depends by t (asks.by_name e) = inl (on.by_name e)
  held_depends by t (asks.by_far e) = inr e
  held_depends by t (asks.by_option e) = inl (on.by_option e)
  held_depends by t (asks.of_need need needed e) = inl (on.of_need need (held_own need (updating_need u part stand r by need (held_need need needed))) e)
  held_depends by t (asks.of_supply need a g needed acts way e) = inl (on.of_supply need a g (held_own need (updating_need u part stand r by need (held_need need needed))) acts way e)
  held_depends by t (asks.of_edges a name (acts, inl needs) way e) = inl (on.of_edges needs.0 a name (held_own needs.0 (updating_need u part stand r by needs.0 (held_need needs.0 needs.1))) acts way e)
  held_depends by t (asks.of_edges a name (acts, inr grants) way e) = absurd grants
  held_depends by t (asks.of_admins a role name grants acts way e) = absurd grants

  held_stands : (¬ (IsUpdating r.need.action)) → (t : Topic) → Asks part (item.Held r) t → HasParts u t ⊎ Contains (plain_topics (item.Held r) r) t
  held_stands by t (asks.by_name (inl e)) = inr (plain_near (item.Held r) r t e)
  held_stands by t (asks.by_name (inr e)) = absurd (subst (λ a. IsPartyTopic a r.grantee t) system e)
  held_stands by t (asks.by_far e) = inr (plain_far (item.Held r) r t e)
  held_stands by t (asks.by_option e) = absurd e
  held_stands by t (asks.of_need need needed e) = inl (need_there u u (λ o k is h keeps. h) need t (other_need u part stand r by need (held_need need needed)) e)
  held_stands by t (asks.of_supply need a g needed acts way e) = inl (subst (HasParts u) (sym e) (other_need u part stand r by need (held_need need needed)))
  held_stands by t (asks.of_edges a name seeks way e) = inl (subst (HasParts u) (sym e) tt)
  held_stands by t (asks.of_admins a role name grants acts way e) = absurd grants

  held_few : length topics ≤ 5 * square n + 3
  held_few = elim (updating_or_not r.need.action) [
    | inl by ↦
        let parts = split (DependsOn part (item.Held r)) (IsFarTopic (item.Held r)) topics (λ t ht. held_depends by t (asked t ht)) in
        let both = parts.2.once (once topics differ) in
        omega (
          arith,
          parts.2.sums (λ t. 1),
          ones topics,
          ones parts.0,
          ones parts.1,
          system_topics_few part u (one_view part order) within (item.Held r) n parts.0 system relevant some (once_pairs parts.0 both.0) (λ t ht. (parts.2.left t ht).1),
          no_longer parts.1 (far_topics (item.Held r)) both.1 (λ t ht. far_listed (item.Held r) t (parts.2.right t ht).1),
          far_few (item.Held r),
        )
    | inr by ↦
        let parts = split (HasParts u) (Contains (plain_topics (item.Held r) r)) topics (λ t ht. held_stands by t (asked t ht)) in
        let both = parts.2.once (once topics differ) in
        omega (
          arith,
          parts.2.sums (λ t. 1),
          ones topics,
          ones parts.0,
          ones parts.1,
          asked_few u part (item.Held r) n parts.0 within relevant (once_pairs parts.0 both.0) (λ t ht. let p = parts.2.left t ht in (asked t p.0, p.1)),
          no_longer parts.1 (plain_topics (item.Held r) r) both.1 (λ t ht. (parts.2.right t ht).1),
          plain_few (item.Held r) r,
        )
  ]

  held_most : length topics ≤ most_topics (item.Held r) relevant.0 + 6
  held_most = elim (updating_or_not r.need.action) [
    | inl by ↦
        let parts = split (DependsOn part (item.Held r)) (IsFarTopic (item.Held r)) topics (λ t ht. held_depends by t (asked t ht)) in
        let both = parts.2.once (once topics differ) in
        omega (
          arith,
          parts.2.sums (λ t. 1),
          ones topics,
          ones parts.0,
          ones parts.1,
          system_topics_most part u (one_view part order) within (item.Held r) relevant.0 parts.0 system relevant.1 (omega (arith, some, relevant.2)) (once_pairs parts.0 both.0) (λ t ht. (parts.2.left t ht).1),
          most_plain (item.Held r) relevant.0 (system_given (item.Held r) system),
          no_longer parts.1 (far_topics (item.Held r)) both.1 (λ t ht. far_listed (item.Held r) t (parts.2.right t ht).1),
          far_few (item.Held r),
        )
    | inr by ↦
        let parts = split (HasParts u) (Contains (plain_topics (item.Held r) r)) topics (λ t ht. held_stands by t (asked t ht)) in
        let both = parts.2.once (once topics differ) in
        omega (
          arith,
          parts.2.sums (λ t. 1),
          ones topics,
          ones parts.0,
          ones parts.1,
          asked_most u part relevant.0 within parts.0 (once_pairs parts.0 both.0) (item.Held r) relevant.1 (λ t ht. let p = parts.2.left t ht in (asked t p.0, p.1)),
          no_longer parts.1 (plain_topics (item.Held r) r) both.1 (λ t ht. (parts.2.right t ht).1),
          plain_few (item.Held r) r,
        )
  ]

-- ---- a right that is with grant option

module _ (u part : List Item) (order : IsInOrder part) (within : IsWithin part u) (stand : NeedsStand u part) (r : Right) (system : r.grantor ≡ System) (n : ℕ) (some : 0 < n) (relevant : HasRelevant u (item.Grantable r) n) (topics : List Topic) (differ : AllPairs (λ s t. s ≢ t) topics)
    (asked : (t : Topic) → Contains topics t → Asks part (item.Grantable r) t) where
  grantable_need : (need : Need) → IsNeedOf part (item.Grantable r) need → Has part (IsObjectNeed part r need)
  grantable_need need is = subst (λ a. IsRightNeed part r a need) system is

  grantable_own : (need : Need) → Has part (IsUpdateNeedOn part r need) → IsOwnNeed part (item.Grantable r) need
  grantable_own need is = subst (λ a. IsOwnRightNeed part r a need) (sym system) is

  grantable_depends : IsUpdating r.need.action → (t : Topic) → Asks part (item.Grantable r) t → DependsOn part (item.Grantable r) t ⊎ IsFarTopic (item.Grantable r) t
  grantable_depends by t (asks.by_name e) = inl (on.by_name e)
  grantable_depends by t (asks.by_far e) = inr e
  grantable_depends by t (asks.by_option e) = inl (on.by_option e)
  grantable_depends by t (asks.of_need need needed e) = inl (on.of_need need (grantable_own need (updating_need u part stand r by need (grantable_need need needed))) e)
  grantable_depends by t (asks.of_supply need a g needed acts way e) = inl (on.of_supply need a g (grantable_own need (updating_need u part stand r by need (grantable_need need needed))) acts way e)
  grantable_depends by t (asks.of_edges a name (acts, inl needs) way e) = inl (on.of_edges needs.0 a name (grantable_own needs.0 (updating_need u part stand r by needs.0 (grantable_need needs.0 needs.1))) acts way e)
  grantable_depends by t (asks.of_edges a name (acts, inr grants) way e) = absurd grants
  grantable_depends by t (asks.of_admins a role name grants acts way e) = absurd grants

  grantable_stands : (¬ (IsUpdating r.need.action)) → (t : Topic) → Asks part (item.Grantable r) t → HasParts u t ⊎ Contains (plain_topics (item.Grantable r) r) t
  grantable_stands by t (asks.by_name (inl e)) = inr (plain_near (item.Grantable r) r t e)
  grantable_stands by t (asks.by_name (inr e)) = absurd (subst (λ a. IsPartyTopic a r.grantee t) system e)
  grantable_stands by t (asks.by_far e) = inr (plain_far (item.Grantable r) r t e)
  grantable_stands by t (asks.by_option e) = inr (plain_option (item.Grantable r) r t e)
  grantable_stands by t (asks.of_need need needed e) = inl (need_there u u (λ o k is h keeps. h) need t (other_need u part stand r by need (grantable_need need needed)) e)
  grantable_stands by t (asks.of_supply need a g needed acts way e) = inl (subst (HasParts u) (sym e) (other_need u part stand r by need (grantable_need need needed)))
  grantable_stands by t (asks.of_edges a name seeks way e) = inl (subst (HasParts u) (sym e) tt)
  grantable_stands by t (asks.of_admins a role name grants acts way e) = absurd grants

  grantable_few : length topics ≤ 5 * square n + 3
  grantable_few = elim (updating_or_not r.need.action) [
    | inl by ↦
        let parts = split (DependsOn part (item.Grantable r)) (IsFarTopic (item.Grantable r)) topics (λ t ht. grantable_depends by t (asked t ht)) in
        let both = parts.2.once (once topics differ) in
        omega (
          arith,
          parts.2.sums (λ t. 1),
          ones topics,
          ones parts.0,
          ones parts.1,
          system_topics_few part u (one_view part order) within (item.Grantable r) n parts.0 system relevant some (once_pairs parts.0 both.0) (λ t ht. (parts.2.left t ht).1),
          no_longer parts.1 (far_topics (item.Grantable r)) both.1 (λ t ht. far_listed (item.Grantable r) t (parts.2.right t ht).1),
          far_few (item.Grantable r),
        )
    | inr by ↦
        let parts = split (HasParts u) (Contains (plain_topics (item.Grantable r) r)) topics (λ t ht. grantable_stands by t (asked t ht)) in
        let both = parts.2.once (once topics differ) in
        omega (
          arith,
          parts.2.sums (λ t. 1),
          ones topics,
          ones parts.0,
          ones parts.1,
          asked_few u part (item.Grantable r) n parts.0 within relevant (once_pairs parts.0 both.0) (λ t ht. let p = parts.2.left t ht in (asked t p.0, p.1)),
          no_longer parts.1 (plain_topics (item.Grantable r) r) both.1 (λ t ht. (parts.2.right t ht).1),
          plain_few (item.Grantable r) r,
        )
  ]

  grantable_most : length topics ≤ most_topics (item.Grantable r) relevant.0 + 6
  grantable_most = elim (updating_or_not r.need.action) [
    | inl by ↦
        let parts = split (DependsOn part (item.Grantable r)) (IsFarTopic (item.Grantable r)) topics (λ t ht. grantable_depends by t (asked t ht)) in
        let both = parts.2.once (once topics differ) in
        omega (
          arith,
          parts.2.sums (λ t. 1),
          ones topics,
          ones parts.0,
          ones parts.1,
          system_topics_most part u (one_view part order) within (item.Grantable r) relevant.0 parts.0 system relevant.1 (omega (arith, some, relevant.2)) (once_pairs parts.0 both.0) (λ t ht. (parts.2.left t ht).1),
          most_plain (item.Grantable r) relevant.0 (system_given (item.Grantable r) system),
          no_longer parts.1 (far_topics (item.Grantable r)) both.1 (λ t ht. far_listed (item.Grantable r) t (parts.2.right t ht).1),
          far_few (item.Grantable r),
        )
    | inr by ↦
        let parts = split (HasParts u) (Contains (plain_topics (item.Grantable r) r)) topics (λ t ht. grantable_stands by t (asked t ht)) in
        let both = parts.2.once (once topics differ) in
        omega (
          arith,
          parts.2.sums (λ t. 1),
          ones topics,
          ones parts.0,
          ones parts.1,
          asked_most u part relevant.0 within parts.0 (once_pairs parts.0 both.0) (item.Grantable r) relevant.1 (λ t ht. let p = parts.2.left t ht in (asked t p.0, p.1)),
          no_longer parts.1 (plain_topics (item.Grantable r) r) both.1 (λ t ht. (parts.2.right t ht).1),
          plain_few (item.Grantable r) r,
        )
  ]

pub system_asks_few : (u part : List Item) → IsInOrder part → IsWithin part u → NeedsStand u part → (x : Item) → IsBySystem x → (n : ℕ) → 0 < n → HasRelevant u x n → (topics : List Topic) → AllPairs (λ s t. s ≢ t) topics → ((t : Topic) → Contains topics t → Asks part x t) → length topics ≤ 5 * square n + 3
system_asks_few u part order within stand (item.Held r) is n some relevant topics differ asks = held_few u part order within stand r is n some relevant topics differ asks
system_asks_few u part order within stand (item.Grantable r) is n some relevant topics differ asks = grantable_few u part order within stand r is n some relevant topics differ asks
system_asks_few u part order within stand _ is n some relevant topics differ asks = absurd is

-- and six beside what its parts, schemas and role authorizations tell
pub system_asks_most : (u part : List Item) → IsInOrder part → IsWithin part u → NeedsStand u part → (x : Item) → IsBySystem x → (xs : List Item) → Lists (λ y. Contains u y × Relevant u y x) xs → 0 < length xs → (topics : List Topic) → AllPairs (λ s t. s ≢ t) topics → ((t : Topic) → Contains topics t → Asks part x t)
    → length topics ≤ most_topics x xs + 6
system_asks_most u part order within stand (item.Held r) is xs lists some topics differ asks = held_most u part order within stand r is (length xs) some (xs, lists, refl) topics differ asks
system_asks_most u part order within stand (item.Grantable r) is xs lists some topics differ asks = grantable_most u part order within stand r is (length xs) some (xs, lists, refl) topics differ asks
system_asks_most u part order within stand _ is xs lists some topics differ asks = absurd is
