-- What is asked for a right by a user or role.
use Rattle.std.proofs.Common.{◌≡◌, ◌↔◌, ◌⊎◌, inl, inr, ℕ, Bool, false, IsTrue, List, [], ◌∷◌, Option, Some, None, refl, sym, subst, ap, ◌∙◌}
use Rattle.std.specs.List.{Contains}
use Rattle.cat_items.specs.declared.need.Auth.{Auth}
use Rattle.cat_items.specs.declared.need.Auth.TheVariants.{System, Public, Named}
use Rattle.cat_items.specs.declared.need.Need.{Need}
use Rattle.cat_items.specs.declared.item.Right.{Right}
use Rattle.cat_items.specs.declared.item.Item.{Item}
use Rattle.cat_items.specs.declared.item.Item.TheVariants as item
use Rattle.cat_items.specs.Reach.{Reaches}
use Rattle.cat_items.specs.Relevant.{ActsInRight, IsActor, IsNeedOf, IsRightNeed}
use Rattle.role_graph.specs.Roles.{IsApplicable}
use Rattle.cascade_laws.specs.Asks as asks
use Rattle.cascade_laws.specs.Asks.{Asks, IsFarTopic}
use Rattle.cascade_laws.specs.Topics.{Topic, IsGrantOf, IsNeedTopic, edges, supply}
use Rattle.board_graph.specs.BoardKeys.{topic_key}
use Rattle.board_graph.specs.Boards.{IsOwnTopic}
use Rattle.topic_keys.specs.Lists.{Adds}
use Rattle.topic_lists.specs.Beside.{HasAskedBefore}
use Rattle.topic_lists.specs.Granted.{HasGranted, IsAskedOf, IsGranted, IsGrantTopic, IsGrantTopicBy, IsReachTopic, IsToTopic}
use Rattle.topic_lists.specs.RightNames.{IsBy, IsOf, IsRightName, right_before, right_in}
use Rattle.topic_lists.specs.Sought.{IsAskedFor, IsOfAny}
use Rattle.topic_lists.proofs.ActorLaws.{leads_on}
use Rattle.topic_lists.proofs.NameLaws.{adds_known, names_in, some_right, unless}
use Rattle.topic_lists.proofs.TopicLaws.{no_option, own, own_far, own_name}

-- ---- by whom a name reaches

-- so of each that it may set, and of itself
pub reach_topics : (l : List Item) (need : Need) (by : List ℕ) (names : List (List ℕ)) → ((name : List ℕ) → Contains names name ↔ IsApplicable l by name) → (t : Topic) → (IsOfAny (IsToTopic need) names t ⊎ IsToTopic need by t) ↔ IsReachTopic l need by t
reach_topics l need by names are t = (
  λ h. elim h [
    | inl of ↦ let led = (are of.0).0 of.1 in (of.0, (led.0 ∷ led.1, led.2), of.2)
    | inr self ↦ (by, ([], refl), self)
  ],
  λ h. elim (leads_on l by h.0 h.1.0 h.1.1) [
    | inl led ↦ inl (h.0, (are h.0).1 led, h.2)
    | inr e ↦ inr (subst (λ n. IsToTopic need n t) e h.2)
  ],
)

-- ---- a right that a user or role granted

-- what such an item is of need and of actor
record IsGrant (l : List Item) (x : Item) (need : Need) (by : List ℕ) : Type 0 where
  pub needs : (n : Need) → IsNeedOf l x n ↔ (n ≡ need)
  pub actor : (a : Auth) → IsActor l x a ↔ (a ≡ Named by)
  pub no_role : (role : List ℕ) → IsGrantOf role x → ⊥

module _ (l : List Item) (r : Right) (by : List ℕ) (granted : r.grantor ≡ Named by) where
  right_needs : (s : Right) → s ≡ r → (n : Need) → IsRightNeed l s s.grantor n ↔ (n ≡ r.need)
  right_needs s same n = subst (λ (z : Right). IsRightNeed l z z.grantor n ↔ (n ≡ r.need)) (sym same) (subst (λ g. IsRightNeed l r g n ↔ (n ≡ r.need)) (sym granted) (λ h. h, λ h. h))

  right_actor : (s : Right) → s ≡ r → (a : Auth) → ActsInRight l s s.grantor a ↔ (a ≡ Named by)
  right_actor s same a = subst (λ (z : Right). ActsInRight l z z.grantor a ↔ (a ≡ Named by)) (sym same) (subst (λ g. ActsInRight l r g a ↔ (a ≡ Named by)) (sym granted) (λ h. h, λ h. h))

  grant_in : (x : Item) → right_in x ≡ Some r → IsGrant l x r.need by
  grant_in (item.Held s) e = let same = some_right s r e in record { needs = right_needs s same; actor = right_actor s same; no_role = λ role h. h }
  grant_in (item.Grantable s) e = let same = some_right s r e in record { needs = right_needs s same; actor = right_actor s same; no_role = λ role h. h }
  grant_in x e = absurd (let odd : None ≡ Some r = e in cc)

  need_name : (t : Topic) → IsNeedTopic r.need t → IsRightName r t
  need_name t (inl object) = inl (inr (inl object))
  need_name t (inr column) = inl (inl column)

  by_reach : (t : Topic) (g : Auth) → Reaches l (Named by) g → t ≡ supply r.need g → IsGrantTopic l r.need by t
  by_reach t System reach e = absurd reach
  by_reach t Public reach e = inl e
  by_reach t (Named to) reach e = inr (to, reach, inl e)

  module _ (x : Item) (is : right_in x ≡ Some r) where
    grant : IsGrant l x r.need by
    grant = grant_in x is

    need_here : IsNeedOf l x r.need
    need_here = (grant.needs r.need).1 refl

    actor_here : IsActor l x (Named by)
    actor_here = (grant.actor (Named by)).1 refl

    reach_by : (a g : Auth) → IsActor l x a → Reaches l a g → Reaches l (Named by) g
    reach_by a g acts reach = subst (λ z. Reaches l z g) ((grant.actor a).0 acts) reach

    to_asks : (t : Topic) → IsAskedOf l r by t → Asks l x t
    to_asks t (inl name) = elim ((names_in x r is t).0 name) [ inl near ↦ asks.by_name near | inr far ↦ asks.by_far far ]
    to_asks t (inr (inl e)) = asks.of_supply r.need (Named by) Public need_here actor_here tt e
    to_asks t (inr (inr h)) = elim h.2 [
      | inl e ↦ asks.of_supply r.need (Named by) (Named h.0) need_here actor_here h.1 e
      | inr e ↦ asks.of_edges (Named by) h.0 (actor_here, inl (r.need, need_here)) h.1 e
    ]

    own_asked : (t : Topic) → IsAskedOf l r by t → IsOwnTopic t
    own_asked t (inl name) = elim ((names_in x r is t).0 name) [ inl near ↦ own_name x t near | inr far ↦ own_far x t far ]
    own_asked t (inr (inl e)) = own t (supply r.need Public) e tt
    own_asked t (inr (inr h)) = elim h.2 [ inl e ↦ own t (supply r.need (Named h.0)) e tt | inr e ↦ own t (edges h.0) e tt ]

    from_asks : (t : Topic) → Asks l x t → IsOwnTopic t → IsAskedOf l r by t
    from_asks t (asks.by_name h) own = inl ((names_in x r is t).1 (inl h))
    from_asks t (asks.by_far h) own = inl ((names_in x r is t).1 (inr h))
    from_asks t (asks.by_option h) own = absurd (no_option x t h own)
    from_asks t (asks.of_need need of h) own = inl (need_name t (subst (λ n. IsNeedTopic n t) ((grant.needs need).0 of) h))
    from_asks t (asks.of_supply need a g of actor to e) own = inr (by_reach t g (reach_by a g actor to) (e ∙ ap (λ n. supply n g) ((grant.needs need).0 of)))
    from_asks t (asks.of_edges a name seeks to e) own = inr (inr (name, reach_by a (Named name) seeks.0 to, inr e))
    from_asks t (asks.of_admins a role name of actor to e) own = absurd (grant.no_role role of)

    pub asked_of : (t : Topic) → IsAskedOf l r by t ↔ IsAskedFor l x t
    asked_of t = (λ h. (to_asks t h, own_asked t h), λ h. from_asks t h.0 h.1)

-- ---- what the one before asks for

granted_there : (l keys : List Item) (x : Item) (r : Right) (grantor : Auth) → right_in x ≡ Some r → r.grantor ≡ grantor → HasAskedBefore l (Some x) keys → (t : Topic) → IsGrantTopicBy l r.need grantor t → Contains keys (topic_key t)
granted_there l keys x r (Named by) is granted has t h = has (topic_key t) (t, (asked_of l r by granted x is t).0 (inr h), refl)
granted_there l keys x r System is granted has t h = absurd h
granted_there l keys x r Public is granted has t h = absurd h

pub has_granted : (l keys : List Item) (before : Option Item) → HasAskedBefore l before keys → HasGranted l (right_before before) keys
has_granted l keys None has = tt
has_granted l keys (Some x) has = granted (right_in x) refl
  where
    granted : (found : Option Right) → right_in x ≡ found → HasGranted l found keys
    granted None e = tt
    granted (Some r) e = granted_there l keys x r r.grantor e refl has

module _ (l keys : List Item) (need : Need) where
  public_there : (other : Option Right) → HasGranted l other keys → IsGranted need other → (t : Topic) → t ≡ supply need Public → Contains keys (topic_key t)
  public_there None has is t e = absurd is
  public_there (Some r) has is t e =
      has t (subst (λ g. IsGrantTopicBy l r.need g t) (sym is.1.1) (inl (e ∙ ap (λ n. supply n Public) (sym is.0))))

  reach_there : (grantor : Auth) (by : List ℕ) → grantor ≡ Named by → (other : Option Right) → HasGranted l other keys → IsOf need other → IsBy grantor other → (t : Topic) → IsReachTopic l need by t → Contains keys (topic_key t)
  reach_there grantor by granted None has is same t h = absurd is
  reach_there grantor by granted (Some r) has is same t h =
      has t (subst (λ g. IsGrantTopicBy l r.need g t) (sym (same ∙ granted)) (inr (subst (λ n. IsReachTopic l n by t) (sym is) h)))

-- all that is asked for is there, where that is left out which the other asks for too
abbrev pub IsLeft : List Item → Right → List ℕ → Bool → Bool → Topic → Type 0
IsLeft l r by known all t = IsRightName r t ⊎ (((known ≡ false) × (t ≡ supply r.need Public)) ⊎ ((all ≡ false) × IsReachTopic l r.need by t))

pub adds_granted : (l : List Item) (r : Right) (by : List ℕ) (other : Option Right) (known all : Bool) (old new : List Item) → r.grantor ≡ Named by → HasGranted l other old → (IsTrue known → IsGranted r.need other) → (IsTrue all → IsOf r.need other × IsBy r.grantor other)
    → Adds (IsLeft l r by known all) old new → Adds (IsAskedOf l r by) old new
adds_granted l r by other known all old new granted has is_known is_all adds = adds_known (IsLeft l r by known all) (IsAskedOf l r by) old new to from adds
  where
    to : (t : Topic) → IsLeft l r by known all t → IsAskedOf l r by t
    to t (inl name) = inl name
    to t (inr (inl h)) = inr (inl h.1)
    to t (inr (inr h)) = inr (inr h.1)

    from : (t : Topic) → IsAskedOf l r by t → IsLeft l r by known all t ⊎ Contains old (topic_key t)
    from t (inl name) = inl (inl name)
    from t (inr (inl e)) = elim (unless known (t ≡ supply r.need Public) (Contains old (topic_key t)) (λ is. public_there l old r.need other has (is_known is) t e) e) [
      | inl left ↦ inl (inr (inl left))
      | inr there ↦ inr there
    ]
    from t (inr (inr h)) =
        elim (unless all (IsReachTopic l r.need by t) (Contains old (topic_key t)) (λ is. let both = is_all is in reach_there l old r.need r.grantor by granted other has both.0 both.1 t h) h) [
          | inl left ↦ inl (inr (inr left))
          | inr there ↦ inr there
        ]
